-- The rows of a table.
pub mod OneEntryMore
pub mod WhereEntryGoes
pub mod NewRowBegins
pub mod TableHasAll
