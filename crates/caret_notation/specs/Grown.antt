-- The rest that a span leaves that has not ended, and texts that grew.
use Rattle.std.specs.Prelude.{ℕ, ◌≡◌, Bool, true, false, nat_le, List, [], ◌++◌, length}
use Rattle.esc_frame.specs.Machine.Prefixes.{prefix_of}
use Rattle.caret_notation.specs.Visible.{begun_after}
use Rattle.caret_notation.specs.declared.kept.Kept.{Kept}

-- the text grew from old to new by the text that makes `before` into `after`
abbrev pub Grows : List ℕ → List ℕ → List ℕ → List ℕ → Type 0
Grows old new before after =
    (t : List ℕ) × (after ≡ before ++ t) × (new ≡ old ++ t)

-- the bytes r are kept whole; or they are over the limit, and the begun bytes at their end are kept
abbrev pub KeepsBy : {A : Type 0} → ℕ → List ℕ → Kept A → Bool → Type 0
KeepsBy limit r k false = (nat_le (length r) limit ≡ true) × (k.span.items ≡ r)
KeepsBy limit r k true =
    (nat_le (length r) limit ≡ false) × (prefix_of k.begun ≡ begun_after [] r)

abbrev pub Keeps : {A : Type 0} → ℕ → List ℕ → Kept A → Type 0
Keeps limit r k = KeepsBy limit r k k.is_over
