-- Control sequences, as one action or value.
pub mod OneNumberAsks
pub mod SequenceIsOneAction
pub mod OneNumberIsOneValue
