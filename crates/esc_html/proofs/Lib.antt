pub mod Texts
pub mod Looks
pub mod Sequences
pub mod Parts
pub mod Lengths
pub mod Pages
pub mod Lines
pub mod BareRuns
