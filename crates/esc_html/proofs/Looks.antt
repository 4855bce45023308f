-- The kinds of looks.
pub mod PlainHasNoAttribute
pub mod ColoredIsItsColor
pub mod KindsOfLooks
