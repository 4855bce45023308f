-- No half of a wide character stands alone.
pub mod RowsStayWhole
pub mod GridsStayWhole
pub mod RunWithoutWide
