mod Lines
mod Addresses
mod Linked
