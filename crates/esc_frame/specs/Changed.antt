-- A call changes a value.
use Rattle.std.specs.Borrow.{MutBor}
use denote.Triple.Both.{Both}

-- a value after a `&mut`, before a call and after it
abbrev pub Changed : Type 0 → Type 0
Changed T = Both (MutBor T) (MutBor T)
