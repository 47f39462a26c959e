pub mod Meanings
pub mod Shown
