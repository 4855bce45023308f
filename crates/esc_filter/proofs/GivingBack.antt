-- The changes that an output leaves at a terminal, and the values that undo them.
pub mod GivingBackRestores
pub mod GivingBackIsWritable
pub mod RenditionsAfterSequence
pub mod TerminalIsUnmoved
pub mod ScreenFunctions
pub mod ChangesAreNoted
pub mod ConcealedFrom
