pub mod Requests
pub mod Trees
pub mod TreesRead
