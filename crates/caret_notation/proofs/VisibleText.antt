-- Visible text of bytes.
pub mod PartByPart
pub mod PlainShowsItself
pub mod ShownInTurn
pub mod ReadsBackAsBytes
pub mod VisibleShowsItself
pub mod VisiblePassesFilters
