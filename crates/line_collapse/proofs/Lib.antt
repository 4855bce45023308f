pub mod Adding
mod Printing
mod Closing
mod Rows
mod Taken
mod Losing
pub mod Streams
mod Texts
mod Bounds
