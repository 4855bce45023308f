pub mod Bodies
pub mod CsisBack
pub mod ParamsText
pub mod Renditions
