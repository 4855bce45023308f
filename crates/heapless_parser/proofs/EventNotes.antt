-- The events of a step, and those that are noted.
pub mod NotesFold
pub mod EventsAreNoted
pub mod EventsHaveRoom
pub mod StepsEmit
pub mod LimitAddsNoEvent
