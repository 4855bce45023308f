-- The text that is written of the values that pass.
pub mod OneValueMore
pub mod PartsAreAppended
pub mod AdmittedTextsAreUnits
pub mod NoUnitBeginsAnother
pub mod TextsGrow
pub mod WrittenOfPassing
pub mod RunsOfText
pub mod DeceivingCharacters
pub mod NoStrayIsWritten
pub mod NothingWasFed
