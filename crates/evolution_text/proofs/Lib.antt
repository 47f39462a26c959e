pub mod InAll
