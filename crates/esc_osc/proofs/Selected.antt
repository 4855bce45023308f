-- A selection has one part or two.
use Rattle.std.proofs.Common.{◌≡◌, ℕ, ◌≤◌, List, [], ◌∷◌, length, map, None, refl, arith}
use Rattle.esc_osc.specs.Reading.{selection_command}

-- more parts than a selection has
pub selected_long : {X : Type 0} (A : Type 0) (f : X → List ℕ) (args : List X) → 3 ≤ length args
    → selection_command {A = A} (map f args) ≡ None
selected_long A f [] h = absurd (omega arith)
selected_long A f (x ∷ []) h = absurd (omega arith)
selected_long A f (x ∷ y ∷ []) h = absurd (omega arith)
selected_long A f (x ∷ y ∷ z ∷ xs) h = refl
