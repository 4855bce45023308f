pub mod ByKey
pub mod Tables
pub mod Controls
pub mod Functions
pub mod Packed
pub mod Escapes
pub mod Modes
pub mod PrivateModes
