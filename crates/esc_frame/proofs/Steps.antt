-- One byte more changes the cut and the machine.
pub mod CutSteps
pub mod CutGrows
pub mod GroundMoves
pub mod StateIsKnown
pub mod MovesIgnoreLimit
pub mod StringsGrow
pub mod FormsGrow
pub mod ParamsGrow
pub mod HeadersAreKept
pub mod FailureIsHandedOn
pub mod DigitsHaveValues
