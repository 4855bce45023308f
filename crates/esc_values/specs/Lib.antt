pub mod Base64
pub mod Clear
pub mod Cuts
pub mod Fields
pub mod Params
pub mod Scalars
