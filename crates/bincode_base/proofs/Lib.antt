-- What the proofs of this crate share.
pub mod Shown
pub mod Taken
pub mod Collected
