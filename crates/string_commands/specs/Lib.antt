pub mod Rows
pub mod Strings
