-- What the proofs of this crate share.
mod LengthReads
