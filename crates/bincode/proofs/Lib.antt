pub mod Counted
pub mod Decoded
pub mod Empty
mod Exactly
pub mod Filled
pub mod Room
pub mod Through
mod Known
mod PiecesHalted
mod StreamHalted
mod Shown
mod Windowed
mod Relayed
pub mod Within
mod EnumFormats
mod Short
mod Counts
