pub mod Admission
pub mod Output
pub mod Results
pub mod Renditions
pub mod GivingBack
pub mod ByLine
