-- Renditions: their numbers, and those that go on over a line feed.
pub mod ShortRenditionsMean
pub mod RenditionsGoOn
pub mod RenditionsAreResumed
pub mod NumbersHaveNoSign
pub mod SequencesFromParameters
