-- Characters at the start of some bytes. No contract of `VTParser` cites it.
use Rattle.std.specs.Prelude.{ℕ, ◌≡◌, ◌≤◌, ◌<◌, ◌++◌, true, false, List, length, take}
use Rattle.esc_frame.specs.Sequences.{is_sequence, is_pair, number_of}

-- a whole sequence, that is no control, and its character
abbrev pub IsCharacter : List ℕ → ℕ → Type 0
IsCharacter x c = (is_sequence x ≡ true) × (is_pair x ≡ false) × (c ≡ number_of x)

-- the first n bytes are one; nothing is said of 0
abbrev pub IsAhead : List ℕ → ℕ → ℕ → Type 0
IsAhead rest n c = 0 < n → (n ≤ length rest) × IsCharacter (take n rest) c

-- the bytes begin with no such sequence: a whole one that comes first is a control
abbrev pub NoneAhead : List ℕ → Type 0
NoneAhead rest = (x y : List ℕ) → rest ≡ x ++ y → is_sequence x ≡ true → is_pair x ≡ true
