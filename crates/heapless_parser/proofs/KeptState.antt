-- The machine that the numbers of a parser stand for.
pub mod UnfinishedByState
pub mod StateHasOnly
pub mod MachineIsKept
pub mod PartsOfMachine
pub mod GroundHasNothing
pub mod NumbersPastLimit
