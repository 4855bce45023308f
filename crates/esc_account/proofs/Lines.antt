-- The account of lines, one after another.
pub mod AccountOfLines
pub mod LedgerHearsMore
pub mod BytesAreTheSame
