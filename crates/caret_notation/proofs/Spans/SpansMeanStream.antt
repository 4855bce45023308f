-- The meaning of a stream, and of its spans.
use Rattle.std.proofs.Common.{ℕ, ◌≡◌, ◌↔◌, Bool, true, false, if◌then◌else◌, List, [], ◌∷◌, ◌++◌, Option, refl, ap, sym, ◌∙◌, append_assoc}
use Rattle.std.specs.List.{flat_map}
use Rattle.std.proofs.lemmas.List.{append-nil}
use Rattle.esc_actions.proofs.Meaning.FinishedHasNoEffect.{yield_alone}
use Rattle.esc_actions.proofs.Meaning.MeaningsJoin.{meaning_more, yield_whole}
use Rattle.esc_actions.specs.Meaning.{meaning_within}
use Rattle.esc_actions.specs.Values.{Value}
use Rattle.esc_frame.specs.Stream.{IsAfterFinished, IsAtGround}
use Rattle.caret_notation.proofs.Spans.GroundIsTested.{from_bool, to_bool}
use Rattle.caret_notation.specs.Spans.{is_at_ground, is_span, spans, spans_after, rest, rest_after}

pub ground_both : (s : List ℕ) → (is_at_ground s ≡ true) ↔ IsAtGround s
ground_both s = (from_bool s, to_bool s)

-- ---- nothing is left out

abbrev itself : List ℕ → List ℕ
itself p = p

abbrev put_together : Bool → List ℕ → List ℕ → List ℕ
put_together by_lines r s =
    flat_map itself (spans_after by_lines r s) ++ rest_after by_lines r s

together_after : (by_lines : Bool) (r s : List ℕ) → put_together by_lines r s ≡ r ++ s
together_after by_lines r [] = sym (append-nil r)
together_after by_lines r (b ∷ s) =
    by_span (is_span by_lines (r ++ b ∷ [])) (together_after by_lines [] s)
    (together_after by_lines (r ++ b ∷ []) s)
    ∙ append_assoc r (b ∷ []) s
  where
    by_span : (t : Bool) → put_together by_lines [] s ≡ s
        → put_together by_lines (r ++ b ∷ []) s ≡ (r ++ b ∷ []) ++ s
        → (flat_map itself (if t then (r ++ b ∷ []) ∷ spans_after by_lines [] s
        else spans_after by_lines (r ++ b ∷ []) s)
        ++ (if t then rest_after by_lines [] s else rest_after by_lines (r ++ b ∷ []) s))
        ≡ (r ++ b ∷ []) ++ s
    by_span true h k =
        append_assoc (r ++ b ∷ []) (flat_map itself (spans_after by_lines [] s))
        (rest_after by_lines [] s) ∙ ap (λ y. (r ++ b ∷ []) ++ y) h
    by_span false h k = k

pub together : (by_lines : Bool) (s : List ℕ)
    → flat_map (λ p. p) (spans by_lines s) ++ rest by_lines s ≡ s
together by_lines s = together_after by_lines [] s

-- ---- each span is a stream of its own

all_finished : (p : List ℕ) → IsAtGround p → IsAfterFinished p []
all_finished p (gs, cut, fin) = (gs, cut.whole ∙ sym (append-nil _), fin)

module _ {A : Type 0} (limit : Option ℕ) where
  abbrev M : List ℕ → List (Value A)
  M s = meaning_within {A = A} limit s

  means_both : (p s : List ℕ) → is_at_ground p ≡ true → M (p ++ s) ≡ M p ++ M s
  means_both p s h =
      sym (meaning_more limit p s)
      ∙ ap (λ vs. M p ++ vs)
      (yield_alone limit p [] (all_finished p (from_bool p h)) s ∙ yield_whole limit s)

  abbrev each : List ℕ → List ℕ → List (Value A)
  each r s = flat_map M (spans_after false r s) ++ M (rest_after false r s)

  means_after : (r s : List ℕ) → M (r ++ s) ≡ each r s
  means_after r [] = ap M (append-nil r)
  means_after r (b ∷ s) =
      ap M (sym (append_assoc r (b ∷ []) s))
      ∙ by_span (is_at_ground (r ++ b ∷ [])) refl (means_after [] s)
      (means_after (r ++ b ∷ []) s)
    where
      by_span : (t : Bool) → is_at_ground (r ++ b ∷ []) ≡ t
          → meaning_within {A = A} limit s ≡ each [] s
          → meaning_within {A = A} limit ((r ++ b ∷ []) ++ s) ≡ each (r ++ b ∷ []) s
          → meaning_within {A = A} limit ((r ++ b ∷ []) ++ s)
          ≡ flat_map (meaning_within {A = A} limit)
          (if t then (r ++ b ∷ []) ∷ spans_after false [] s
          else spans_after false (r ++ b ∷ []) s)
          ++ meaning_within limit
          (if t then rest_after false [] s else rest_after false (r ++ b ∷ []) s)
      by_span true e h k =
          means_both (r ++ b ∷ []) s e ∙ ap (λ vs. M (r ++ b ∷ []) ++ vs) h
          ∙ sym (append_assoc (M (r ++ b ∷ [])) (flat_map M (spans_after false [] s))
          (M (rest_after false [] s)))
      by_span false e h k = k

  pub means_spans : (s : List ℕ)
      → M s ≡ flat_map M (spans false s) ++ M (rest false s)
  means_spans s = means_after [] s
