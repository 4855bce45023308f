-- Totals, line feeds and places.
pub mod TotalIsLength
pub mod FeedsAddUp
pub mod EntriesLieAtPlaces
