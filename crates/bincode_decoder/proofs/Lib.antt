-- What the proofs of this crate share, and those of crates above it.
pub mod WrittenAs
pub mod FloatAnswers
pub mod DurationAnswers
pub mod Rooms
pub mod BytesAtOnce
pub mod ReadAnswers
pub mod PartAnswers
pub mod Refusals
pub mod LengthPrefixedBytes
pub mod OctetAnswers
pub mod Lending
