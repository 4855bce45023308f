-- The fate that a policy gives, by the values of a segment.
pub mod FateByPolicy
pub mod FateOfSequence
pub mod FateByFacts
pub mod CommandsAreWeighed
pub mod BriefsKeepActions
pub mod RenditionsPass
pub mod LastCharacterWritten
pub mod ResultsOfEqualValues
