pub mod Judging
pub mod Greatest
pub mod Growing
pub mod Salvaging
mod Reaching
