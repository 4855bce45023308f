pub mod Ownership
pub mod Sizes
