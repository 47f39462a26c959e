pub mod Windows
pub mod Refusals
