-- The values of a stream, and the actions of them.
pub mod CodesHaveNumbers
pub mod LettersThatOpen
pub mod ActionsHandedOut
pub mod ValuesComeInGroups
