pub mod Parts
pub mod Painting
pub mod Drawn
pub mod Differences
pub mod Laws
