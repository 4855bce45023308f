-- A limit bounds the bytes that are kept of a string.
pub mod KeptWithinLimit
pub mod ShortIsUnlimited
pub mod KeepsLimit
pub mod GrowingSegments
