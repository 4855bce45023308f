-- The parts of a stream: they are safe, nest and close.
pub mod AddressesInParts
pub mod PartsAreSafe
pub mod PartsNestAndClose
