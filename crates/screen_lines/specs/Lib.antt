pub mod Parts
pub mod Rows
pub mod Runs
pub mod Written
pub mod Bounds
