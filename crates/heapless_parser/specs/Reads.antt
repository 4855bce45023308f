-- Runs at the first of some bytes.
use Rattle.std.specs.Prelude.{ℕ, ◌≤◌, List, length, take}
use Rattle.heapless_parser.specs.Runs.{IsTextRun}

-- The first `taken` bytes are a run of characters.
pub record BeginsWithText (bytes : List ℕ) (taken : ℕ) : Type 0 where
  -- no more bytes are taken than there are
  pub few : taken ≤ length bytes
  -- the bytes are well-formed, and have no controls
  pub run : IsTextRun (take taken bytes)
