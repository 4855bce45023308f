-- Segments by themselves, and those that are short.
pub mod EscapeEndsSegment
pub mod ShortHasNoLimit
pub mod ShortSequenceEvent
pub mod SequencesWithoutNoise
