-- The list after a call for room.
use Rattle.std.specs.Prelude.{◌≡◌, Vec, vec_len}

-- it is as it was
pub record IsUnchanged {T A : Type 0} (old new : Vec T A) : Type 0 where
  pub items : new.items ≡ old.items
  pub len : vec_len new ≡ vec_len old
