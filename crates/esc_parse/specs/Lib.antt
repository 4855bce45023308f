pub mod Given
pub mod Sinks
pub mod Fed
pub mod Firsts
pub mod Collected
pub mod Sixels
pub mod Images
pub mod Calls
