pub mod Pairs
pub mod Prompts
pub mod Words
