pub mod Cutting
pub mod Escaped
pub mod Keys
pub mod ReadBack
pub mod Spelled
pub mod Texts
pub mod Selected
