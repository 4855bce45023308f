pub mod Quoted
pub mod Pages
