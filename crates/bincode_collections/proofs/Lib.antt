-- What the proofs of this crate share.
pub mod Reading
pub mod Containers
pub mod Putting
pub mod InTurn
pub mod MadeAnswers
pub mod ValidatedAnswers
pub mod CellAnswers
