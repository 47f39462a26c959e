pub mod Settings
pub mod Answers
