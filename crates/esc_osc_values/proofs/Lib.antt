pub mod Codes
pub mod Colors
pub mod Fits
pub mod Found
pub mod JoinedLossy
mod Keys
pub mod Numerals
pub mod Parts
pub mod Selections
pub mod Titles
pub mod Turns
