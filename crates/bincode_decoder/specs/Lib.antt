pub mod Contexts
pub mod Memory
