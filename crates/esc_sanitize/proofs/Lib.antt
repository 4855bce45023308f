pub mod Texts
mod Beginning
mod Following
mod Running
mod Auditing
mod OfParts
mod Ending
