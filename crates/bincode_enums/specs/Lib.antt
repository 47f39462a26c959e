pub mod EnumWords
