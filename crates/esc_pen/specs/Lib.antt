pub mod Pens
pub mod Texts
