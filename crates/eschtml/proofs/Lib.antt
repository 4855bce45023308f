pub mod Longer
mod Piping
mod Left
mod Same
mod Seen
mod Lining
mod Lengths
mod Joined
