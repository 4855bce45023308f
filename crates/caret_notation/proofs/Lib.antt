pub mod VisibleText
pub mod Spans
pub mod Streams
pub mod Filters
