-- Runs of bytes that are taken at once.
pub mod ClearRuns
pub mod CsiRuns
pub mod DigitRuns
pub mod QuietRuns
pub mod ShortRuns
pub mod StringRuns
pub mod ManyBytes
pub mod LanesPass
pub mod PrefixesPass
pub mod ShortBodies
pub mod FirstCharacter
pub mod NoCharacterAhead
