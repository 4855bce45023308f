mod Chosen
mod Within
mod Failures
pub mod Names
pub mod Reported
pub mod AtOnce
