pub mod Depths
pub mod Readings
