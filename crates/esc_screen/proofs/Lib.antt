pub mod Parts
pub mod Turned
pub mod Sound
pub mod Whole
pub mod Printing
pub mod Scrolled
pub mod Resizing
