-- The entries that a ledger is given, segment by segment.
pub mod LedgerIsGiven
pub mod BlocksJoin
pub mod FinishedAreEntered
pub mod LineIsEntered
pub mod EntriesAddUp
