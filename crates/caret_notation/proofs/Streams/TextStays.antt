-- The text of a stream stays as the stream grows, and as it ends.
use Rattle.std.proofs.Common.{ℕ, ◌≡◌, Bool, true, false, nat_le, if◌then◌else◌, List, [], ◌∷◌, ◌++◌, length, refl, ap, sym, ◌∙◌, append_assoc}
use Rattle.std.specs.List.{flat_map}
use Rattle.std.proofs.lemmas.Bool.{and_parts}
use Rattle.std.proofs.lemmas.List.{append-nil}
use Rattle.esc_actions.specs.Values.{Value}
use Rattle.caret_notation.proofs.Spans.SpansGrow.{all_append, before_last, span_ends, span_goes}
use Rattle.caret_notation.proofs.VisibleText.ShownInTurn.{longer_over, rest_over, rest_whole, settled_append, shown_over}
use Rattle.caret_notation.specs.Spans.{ends_in_line, is_span, spans_after, rest_after}
use Rattle.caret_notation.specs.Revealed.{but_last, is_kept, span_text, revealed_after, revealed_as, revealed_whole_as}
use Rattle.caret_notation.specs.Visible.{begun_after, closing, opening, rest_text, settled_text, shown_text, stray_text}
use Rattle.caret_notation.specs.declared.marking.Marking.{Marking}

-- y begins with x
abbrev pub Longer : List ℕ → List ℕ → Type 0
Longer x y = (t : List ℕ) × (y ≡ x ++ t)

pub longer_then : (x y z : List ℕ) → Longer x y → Longer y z → Longer x z
longer_then x y z (t, e) (u, f) = (t ++ u, f ∙ ap (λ w. w ++ u) e ∙ append_assoc x t u)

longer_none : (x y : List ℕ) → x ≡ [] → Longer x y
longer_none x y e = (y, ap (λ w. w ++ y) (sym e))

module _ (m : Marking) (limit : ℕ) where
  rest_longer : (r : List ℕ) (b : ℕ)
      → Longer (rest_text m limit r) (rest_text m limit (r ++ b ∷ []))
  rest_longer r b = by_over (nat_le (length r) limit) refl
    where
      by_over : (t : Bool) → nat_le (length r) limit ≡ t
          → Longer (rest_text m limit r) (rest_text m limit (r ++ b ∷ []))
      by_over true e = longer_none (rest_text m limit r) (rest_text m limit (r ++ b ∷ []))
          (rest_whole m limit r e)
      by_over false e = (
        settled_text (begun_after [] r) (b ∷ []),
        rest_over m limit (r ++ b ∷ []) (longer_over limit b r e)
            ∙ ap (λ w. opening m ++ w) (settled_append [] r (b ∷ []))
            ∙ sym (append_assoc (opening m) (settled_text [] r)
            (settled_text (begun_after [] r) (b ∷ [])))
            ∙ ap (λ w. w ++ settled_text (begun_after [] r) (b ∷ [])) (sym (rest_over m limit r e)),
      )

  pub rest_shown : (r : List ℕ) → Longer (rest_text m limit r) (shown_text m r)
  rest_shown r = by_over (nat_le (length r) limit) refl
    where
      by_over : (t : Bool) → nat_le (length r) limit ≡ t
          → Longer (rest_text m limit r) (shown_text m r)
      by_over true e = longer_none (rest_text m limit r) (shown_text m r) (rest_whole m limit r e)
      by_over false e = let stray = stray_text (begun_after [] r) in (
        stray ++ closing m,
        shown_over m limit r e
            ∙ ap (λ w. opening m ++ w) (append_assoc (settled_text [] r) stray (closing m))
            ∙ sym (append_assoc (opening m) (settled_text [] r) (stray ++ closing m))
            ∙ ap (λ w. w ++ (stray ++ closing m)) (sym (rest_over m limit r e)),
      )

  within_before : (r : List ℕ) (b : ℕ) → nat_le (length (r ++ b ∷ [])) limit ≡ true
      → nat_le (length r) limit ≡ true
  within_before r b h = by_over (nat_le (length r) limit) refl
    where
      by_over : (t : Bool) → nat_le (length r) limit ≡ t → t ≡ true
      by_over true e = refl
      by_over false e = let k = longer_over limit b r e in absurd cc

  module _ {A : Type 0} (by_lines : Bool) (admits : Value A → Bool) where
    abbrev text : List ℕ → List ℕ
    text p = span_text {A = A} m by_lines limit admits p

    abbrev all : List ℕ → List ℕ → List ℕ
    all r s = revealed_after {A = A} m by_lines limit admits r s

    text_longer : (r : List ℕ) (b : ℕ) → Longer (rest_text m limit r) (text (r ++ b ∷ []))
    text_longer r b =
        by_tests (ends_in_line by_lines (r ++ b ∷ [])) (is_kept m limit admits (r ++ b ∷ [])) refl
      where
        feed : Longer (rest_text m limit r) (shown_text m (but_last (r ++ b ∷ [])) ++ 0x0a ∷ [])
        feed = longer_then (rest_text m limit r) (shown_text m r)
            (shown_text m (but_last (r ++ b ∷ [])) ++ 0x0a ∷ []) (rest_shown r)
            (0x0a ∷ [], ap (λ w. shown_text m w ++ 0x0a ∷ []) (before_last r b))

        seen : Longer (rest_text m limit r) (shown_text m (r ++ b ∷ []))
        seen = longer_then (rest_text m limit r) (rest_text m limit (r ++ b ∷ []))
            (shown_text m (r ++ b ∷ [])) (rest_longer r b) (rest_shown (r ++ b ∷ []))

        by_tests : (x y : Bool) → is_kept m limit admits (r ++ b ∷ []) ≡ y
            → Longer (rest_text m limit r)
            (if x then shown_text m (but_last (r ++ b ∷ [])) ++ 0x0a ∷ []
            else if y then r ++ b ∷ [] else shown_text m (r ++ b ∷ []))
        by_tests true y e = feed
        by_tests false true e = longer_none (rest_text m limit r) (r ++ b ∷ [])
            (rest_whole m limit r (within_before r b (and_parts _ _ (and_parts _ _ e).0).0))
        by_tests false false e = seen

    one_longer : (r : List ℕ) (b : ℕ) → Longer (rest_text m limit r) (all r (b ∷ []))
    one_longer r b = by_span (is_span by_lines (r ++ b ∷ [])) refl
      where
        by_span : (t : Bool) → is_span by_lines (r ++ b ∷ []) ≡ t
            → Longer (rest_text m limit r) (all r (b ∷ []))
        by_span true e = longer_then (rest_text m limit r) (text (r ++ b ∷ [])) (all r (b ∷ []))
            (text_longer r b) (
              [],
              (span_ends m by_lines limit admits r b e).1
                  ∙ sym (append-nil (text (r ++ b ∷ []))),
            )
        by_span false e = longer_then (rest_text m limit r) (rest_text m limit (r ++ b ∷ []))
            (all r (b ∷ [])) (rest_longer r b) (
              [],
              (span_goes m by_lines limit admits r b e).1
                  ∙ sym (append-nil (rest_text m limit (r ++ b ∷ []))),
            )

    -- after a prefix, and the text of the rest
    all_then : (r x y : List ℕ)
        → Longer (rest_text m limit (rest_after by_lines r x)) (all (rest_after by_lines r x) y)
        → Longer (all r x) (all r (x ++ y))
    all_then r x y (t, e) =
        let done = flat_map text (spans_after by_lines r x) in (
          t,
          all_append m by_lines limit admits r x y ∙ ap (λ w. done ++ w) e
              ∙ sym (append_assoc done (rest_text m limit (rest_after by_lines r x)) t),
        )

    all_longer : (r s : List ℕ) → Longer (rest_text m limit r) (all r s)
    all_longer r [] = ([], sym (append-nil (rest_text m limit r)))
    all_longer r (b ∷ s) =
        longer_then (rest_text m limit r) (all r (b ∷ [])) (all r (b ∷ s)) (one_longer r b)
        (all_then r (b ∷ []) s (all_longer (rest_after by_lines r (b ∷ [])) s))

    pub revealed_longer : (s b : List ℕ)
        → Longer (revealed_as {A = A} m by_lines limit admits s)
        (revealed_as m by_lines limit admits (s ++ b))
    revealed_longer s b = all_then [] s b (all_longer (rest_after by_lines [] s) b)

    pub whole_longer : (s : List ℕ)
        → Longer (revealed_as {A = A} m by_lines limit admits s)
        (revealed_whole_as m by_lines limit admits s)
    whole_longer s =
        let done = flat_map text (spans_after by_lines [] s) in
        let k = rest_after by_lines [] s in
        let (t, e) = rest_shown k in
        (t, ap (λ w. done ++ w) e ∙ sym (append_assoc done (rest_text m limit k) t))
