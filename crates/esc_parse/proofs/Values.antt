-- The values of events, and those that a sink was given.
pub mod NoEventWantsMemory
pub mod EventsGiveValues
pub mod ExactPrefixes
pub mod CommandsAreGiven
pub mod NothingIsKept
