pub mod Counts
pub mod Segments
pub mod Fates
pub mod Entries
pub mod Lines
pub mod AtOnce
pub mod Rows
