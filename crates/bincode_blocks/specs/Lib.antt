pub mod BlockLaws
pub mod Blocks
