pub mod Events
pub mod Recorded
pub mod Recordings
