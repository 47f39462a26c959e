mod Conversed
pub mod Received
mod Sent
mod Served
mod Stopped
