-- Runs of characters, and the rows that they change.
pub mod MiddlesOfRows
pub mod RunsOfCharacters
pub mod CellsAsAtFirst
pub mod RowGoesOnOnce
pub mod PaintedRowsShow
