pub mod Io
pub mod Spelled
pub mod Streams
pub mod Whole
pub mod Texts
pub mod Normalising
