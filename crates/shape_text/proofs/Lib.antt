pub mod Longer
pub mod Sought
