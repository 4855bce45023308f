pub mod Numbers
pub mod Clear
pub mod Codecs
