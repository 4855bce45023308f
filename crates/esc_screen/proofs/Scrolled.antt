-- Rows that are scrolled off.
pub mod ChangesInTurn
pub mod LineFeedReturns
pub mod RowsScrolledOff
pub mod LogOfPlainText
