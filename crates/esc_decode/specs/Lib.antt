pub mod Masks
pub mod Spellings
pub mod Pages
pub mod Decodings
pub mod Units
pub mod Utf16Streams
