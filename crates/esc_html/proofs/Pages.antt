-- The page of a stream.
pub mod ValuesOfPage
pub mod RunIsEachCharacter
pub mod PageOfStream
