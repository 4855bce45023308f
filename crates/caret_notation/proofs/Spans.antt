-- Spans of a stream.
pub mod GroundIsTested
pub mod SpansGrow
pub mod MoreOfSpan
pub mod CharactersAreSpans
pub mod RunsWithoutMark
pub mod SpansMeanStream
