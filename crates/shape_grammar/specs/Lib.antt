pub mod Names
pub mod Claims
pub mod Marks
pub mod Grammar
