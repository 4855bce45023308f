pub mod Words
pub mod Given
pub mod Sizes
pub mod Endings
pub mod ShownWords
pub mod Packs
