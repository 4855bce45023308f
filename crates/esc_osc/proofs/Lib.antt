pub mod Dynamic
pub mod Layers
pub mod NamedMarks
pub mod ReadParts
pub mod ReadsBack
pub mod Selected
pub mod Under
pub mod Written
