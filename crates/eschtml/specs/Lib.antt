pub mod Written
pub mod Piped
pub mod Lined
pub mod Lengths
pub mod Joined
