-- What the proofs of this crate share.
pub mod RequestsRead
pub mod TreeWalks
