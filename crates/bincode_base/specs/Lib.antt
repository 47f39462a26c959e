pub mod AllowedTags
pub mod Setting
pub mod ShortText
pub mod SignedNames
pub mod Slots
pub mod StreamError
