pub mod Classes
pub mod Colors
pub mod Styles
pub mod Looks
