-- Places with no segment unfinished.
use Rattle.std.proofs.Common.{ℕ, ◌≡◌, ◌↔◌, Bool, true, false, IsTrue, List, refl, ap, sym}
use Rattle.esc_frame.proofs.Cut.CutAtGround.{from_ground, to_ground}
use Rattle.esc_frame.specs.Leads.{Unfinished}
use Rattle.esc_frame.specs.Leads.Unfinished.{Ground}
use Rattle.esc_frame.specs.Machine.Moves.{after_all, is_ground}
use Rattle.esc_frame.specs.Stream.{IsAtGround}
use Rattle.caret_notation.specs.Spans.{is_at_ground}

ground_is : (u : Unfinished) → is_ground u ≡ true → u ≡ Ground
ground_is Ground h = refl
ground_is u h = absurd cc

pub to_bool : (s : List ℕ) → IsAtGround s → is_at_ground s ≡ true
unfolding is_at_ground
to_bool s h = ap is_ground (to_ground s h)

pub from_bool : (s : List ℕ) → is_at_ground s ≡ true → IsAtGround s
unfolding is_at_ground
from_bool s h = from_ground s (ground_is (after_all Ground s) h)

-- a test of it
pub ground_test : (b : Bool) (s : List ℕ) → (IsTrue b ↔ IsAtGround s) → b ≡ is_at_ground s
ground_test true s h = sym (to_bool s (h.0 refl))
ground_test false s h = by_ground (is_at_ground s) refl
  where
    by_ground : (g : Bool) → is_at_ground s ≡ g → false ≡ g
    by_ground true e = let k = h.1 (from_bool s e) in absurd cc
    by_ground false e = refl
