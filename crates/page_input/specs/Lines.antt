-- Lines of a stream.
use Rattle.std.specs.Prelude.{ℕ, zero, suc, ◌==◌, ◌+◌, ◌-◌, Bool, not, if◌then◌else◌, List, [], ◌∷◌, Option, None, Some, length, slice_index}

-- how many line feeds there are
abbrev pub feeds : List ℕ → ℕ
feeds [] = 0
feeds (b ∷ s) = (if b == 0x0a then 1 else 0) + feeds s

-- whether bytes come after the last one, if before these some do or not
abbrev pub open_after : Bool → List ℕ → Bool
open_after begun s =
    if length s == 0 then begun else not (slice_index s (length s - 1) == 0x0a)

-- The lines that come first, so many, each with the line feed that ends it.
abbrev pub first_lines : ℕ → List ℕ → List ℕ
first_lines zero s = []
first_lines (suc n) [] = []
first_lines (suc n) (b ∷ s) = b ∷ (if b == 0x0a then first_lines n s else first_lines (suc n) s)

-- the part that a reader has of the bytes of another, if these are known: all of them, or the lines
-- that come first
abbrev pub first_of : Option ℕ → Option (List ℕ) → Option (List ℕ)
first_of None known = known
first_of (Some n) None = None
first_of (Some n) (Some s) = Some (first_lines n s)

-- and of the lines that come last nothing is known
abbrev pub window_of : Option ℕ → Option ℕ → Option (List ℕ) → Option (List ℕ)
window_of None head known = first_of head known
window_of (Some n) head known = None
