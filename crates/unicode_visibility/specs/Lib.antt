pub mod Characters
pub mod Following
pub mod Signs
