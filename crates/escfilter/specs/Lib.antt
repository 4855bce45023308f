pub mod Choices
pub mod Settings
pub mod Fates
pub mod Failures
pub mod Losses
pub mod Names
pub mod Rows
pub mod Reports
