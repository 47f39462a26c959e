pub mod Calling
pub mod Conversing
pub mod Refusals
pub mod Sending
pub mod Serving
pub mod ServingSteps
