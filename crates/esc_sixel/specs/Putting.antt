-- Text that is put into an array of 128 bytes. Only private contracts cite it.
use Rattle.std.specs.Prelude.{ℕ, ◌≡◌, ◌+◌, ◌≤◌, List, ◌++◌, take}
use Rattle.std.specs.Str.{IsAscii}

-- The bytes are ASCII, and there is room for n of them at this place.
pub record HasRoom (bytes : List ℕ) (at n : ℕ) : Type 0 where
  pub room : at + n ≤ 128
  pub ascii : IsAscii bytes

-- At this place a text was put, which ends at the other, and the bytes are ASCII.
pub record Puts (old : List ℕ) (at : ℕ) (added new : List ℕ) (end : ℕ) : Type 0 where
  pub ascii : IsAscii new
  pub text : take end new ≡ take at old ++ added
