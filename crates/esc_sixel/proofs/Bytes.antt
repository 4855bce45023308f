-- The bytes of data, one more and many.
pub mod CountersStep
pub mod OneByteMore
pub mod ManyBytes
pub mod ColorIsDefined
pub mod ItemsAreCut
pub mod BytesThatTakeMemory
