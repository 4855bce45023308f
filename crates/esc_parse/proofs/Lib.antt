pub mod Lists
pub mod Values
pub mod Runs
pub mod Data
