pub mod Csis
pub mod Escs
