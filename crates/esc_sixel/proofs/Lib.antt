pub mod Runs
pub mod Bytes
pub mod Writing
