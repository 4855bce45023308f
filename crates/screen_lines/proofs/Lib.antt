pub mod Growing
mod Looks
pub mod Runs
pub mod Tokens
pub mod Bare
pub mod Bounds
