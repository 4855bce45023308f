pub mod Kinds
pub mod Leads
pub mod Says
pub mod Texts
pub mod Values
pub mod Writable
