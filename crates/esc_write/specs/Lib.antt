pub mod Plain
pub mod Encoding
