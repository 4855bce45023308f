-- The events that an actor is given, and when it may be given them.
pub mod EventsFold
pub mod MayAfterSome
pub mod MayInGround
pub mod MayAfterQuietRun
pub mod SegmentsSay
pub mod SequencesSay
pub mod StringsSay
pub mod TextsByCharacter
pub mod EventsAreTheCuts
pub mod StepsAdd
pub mod StopsAtFirstEvent
pub mod FinishedIsForgotten
pub mod EventsFit
