-- What the layers of the library promise one another, in the order of reading.
pub mod Laws
pub mod Chars
pub mod Spelling
pub mod Needs
pub mod Meanings
pub mod Pieces
pub mod Reads
pub mod Lending
pub mod Claims
pub mod Releases
pub mod Values
pub mod Agree
pub mod Alike
