pub mod Codes
pub mod Colors
pub mod Lists
pub mod Progresses
pub mod Selections
pub mod WritableValues
