-- More parts than a form has.
use Rattle.std.proofs.Common.{ℕ, ◌≡◌, ◌≤◌, List, [], ◌∷◌, length, map, None, refl, arith}
use Rattle.esc_iterm.specs.ITerms.{bare_keyword, keyed_word}

pub bare_long : {X : Type 0} (A : Type 0) (f : X → List ℕ) (k : List ℕ) (xs : List X)
    → 2 ≤ length xs → bare_keyword {A = A} k (map f xs) ≡ None
bare_long A f k [] h = absurd (omega arith)
bare_long A f k (x ∷ []) h = absurd (omega arith)
bare_long A f k (x ∷ y ∷ xs) h = refl

pub keyed_long : {X : Type 0} (A : Type 0) (f : X → List ℕ) (k v : List ℕ) (xs : List X)
    → 3 ≤ length xs → keyed_word {A = A} k v (map f xs) ≡ None
keyed_long A f k v [] h = absurd (omega arith)
keyed_long A f k v (x ∷ []) h = absurd (omega arith)
keyed_long A f k v (x ∷ y ∷ []) h = absurd (omega arith)
keyed_long A f k v (x ∷ y ∷ z ∷ xs) h = refl
