pub mod Sgr
