pub mod Hyperlinks
