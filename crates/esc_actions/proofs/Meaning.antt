-- The meaning of streams.
pub mod MeaningsJoin
pub mod StreamMeansReadings
pub mod FinishedHasNoEffect
pub mod WithinLimitIsSame
pub mod MeetsHeadline
