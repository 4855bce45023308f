pub mod Addresses
pub mod Lines
pub mod Linked
pub mod Strikes
