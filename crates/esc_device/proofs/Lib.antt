pub mod Bytes
pub mod Headers
pub mod Hooks
pub mod Says
