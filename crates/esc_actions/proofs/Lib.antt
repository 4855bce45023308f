pub mod Meaning
pub mod Values
pub mod Writing
pub mod Lists
