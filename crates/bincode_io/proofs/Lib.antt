pub mod Fronts
pub mod Slices
pub mod StdBytes
pub mod Streams
pub mod Windows
pub mod WordAnswers
pub mod Words
