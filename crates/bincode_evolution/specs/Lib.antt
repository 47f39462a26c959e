pub mod Reading
pub mod Rules
pub mod Kinds
pub mod Lists
