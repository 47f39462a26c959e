pub mod Alike
pub mod Differing
pub mod Listed
