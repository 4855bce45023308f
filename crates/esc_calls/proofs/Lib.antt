pub mod Known
pub mod AsBox
mod Bits
pub mod Keeping
pub mod Outputs
pub mod Rows
pub mod Sanitizing
pub mod Strings
mod WrittenBack
mod ImagesWritten
mod QueriesWritten
mod SixelsWritten
