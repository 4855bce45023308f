-- The kept text, in memory that was lent.
use Rattle.std.specs.Prelude.{ℕ, ◌≡◌, Bool, false, not, List, length, take, Option}
use Rattle.esc_frame.specs.Limits.{is_within}

-- The first bytes of the memory are this text, each byte of which counts; if it is past the limit,
-- nothing is said of them.
abbrev pub KeepsBorrowed : Option ℕ → Bool → ℕ → List ℕ → List ℕ → Type 0
KeepsBorrowed limit is_over count memory t =
    (is_over ≡ not (is_within limit (length t)))
    × (is_over ≡ false → (count ≡ length t) × (take count memory ≡ t))
