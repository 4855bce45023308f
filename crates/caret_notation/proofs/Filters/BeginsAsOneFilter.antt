-- A reveal and a filter at the beginning of a stream, as a filter of one.
use Rattle.std.proofs.Common.{ℕ, ◌≡◌, List, [], ◌++◌, ap, ◌∙◌, append_assoc}
use Rattle.esc_filter.specs.declared.admit.Admit.{Ghosts as Admitter}
use Rattle.caret_notation.proofs.Spans.SpansGrow.{rest_none}
use Rattle.caret_notation.proofs.Streams.TextStays.{whole_longer}
use Rattle.caret_notation.specs.Fed.{text_by, whole_by}
use Rattle.caret_notation.specs.Through.{through, through_whole}
use Rattle.caret_notation.specs.declared.reveal.Rule.{Rule}

module _ {P A : Type 0} (V : Admitter P A) (rule : Rule P) (m c : List ℕ → List ℕ) where
  -- nothing has no text
  pub through_nothing : m [] ≡ [] → through {A = A} V rule m [] ≡ []
  through_nothing h = ap m (rest_none rule.marking rule.limit) ∙ h

  -- and the text of a stream that has ended begins with that of one that goes on
  pub through_longer : ((s b : List ℕ) → (t : List ℕ) × (m (s ++ b) ≡ m s ++ t))
      → ((s : List ℕ) → (t : List ℕ) × (c s ≡ m s ++ t)) → (s : List ℕ)
      → (t : List ℕ) × (through_whole {A = A} V rule c s ≡ through {A = A} V rule m s ++ t)
  through_longer more end s =
      let (x, e) = whole_longer rule.marking rule.limit rule.by_lines (V.admits rule.policy) s in
      let (t, f) = more (text_by {A = A} V rule s) x in
      let (u, k) = end (whole_by {A = A} V rule s) in (
        t ++ u,
        k ∙ ap (λ y. m y ++ u) e ∙ ap (λ y. y ++ u) f
            ∙ append_assoc (m (text_by {A = A} V rule s)) t u,
      )
