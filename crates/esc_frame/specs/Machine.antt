-- These modules say what the code keeps of an unfinished segment, and how a byte changes it. Public
-- contracts cite them only through `HasConsumed` and the body of `events` in Stream; the laws say
-- all that the crates above use.
pub mod Cells
pub mod Prefixes
pub mod Keeps
pub mod Moves
pub mod Calls
pub mod Characters
pub mod TextRuns
pub mod Shorts
pub mod Texts
pub mod Makes
pub mod Keeping
pub mod Allowed
pub mod Taking
