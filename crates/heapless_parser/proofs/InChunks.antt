-- Segments whose bytes come in several chunks.
pub mod ApcBytes
pub mod BodyBytes
pub mod DataBytes
pub mod HeaderBytes
pub mod OscBytes
pub mod EscapeBytes
pub mod OneByteLater
pub mod StringsEndInChunks
pub mod CommandsLieWhole
pub mod ControlsAhead
pub mod RunsOfCharacters
pub mod SeveralStepsAreOne
