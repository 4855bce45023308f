pub mod Quoting
pub mod PagesMore
pub mod Finding
pub mod PlainBytes
