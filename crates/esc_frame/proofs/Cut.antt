-- The cut of a stream: it exists, is the only one, and its units.
pub mod FirstSequence
pub mod UnitsAreDetermined
pub mod FirstSegment
pub mod CutIsUnique
pub mod CutExists
pub mod WellFormedIsUtf8
pub mod OneByteMore
pub mod SplitAtSemicolons
pub mod CutAtGround
