-- Runs of text and data.
pub mod RunsOfText
pub mod RunsOfData
pub mod RunsOfSixels
