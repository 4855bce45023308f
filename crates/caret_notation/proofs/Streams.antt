-- The revealed text of a stream.
pub mod TextStays
pub mod TextOfFedBytes
pub mod RevealedReadsBack
