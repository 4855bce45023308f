pub mod LossyTexts
pub mod ReadsBack
pub mod Runs
pub mod Turns
