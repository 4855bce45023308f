-- More of a span, at most up to its end.
use Rattle.std.proofs.Common.{ℕ, zero, suc, ◌≡◌, ◌<◌, ◌≤◌, ◌+◌, ◌-◌, ◌&&◌, ◌||◌, Bool, true, false, if◌then◌else◌, List, [], ◌∷◌, ◌++◌, length, get_or, take, drop, Option, arith, refl, ap, sym, ◌∙◌, subst, append_assoc, inl, inr}
use Rattle.std.specs.List.{flat_map}
use Rattle.std.proofs.lemmas.Bool.{cases_lt}
use Rattle.std.proofs.lemmas.List.{get_or-take, length-take-le, take-take, take_all}
use Rattle.esc_actions.specs.Values.{Value}
use Rattle.esc_filter.proofs.ByLine.FirstAndLastFeed.{no_line}
use Rattle.esc_filter.specs.Lines.{has_line_feed, is_line_feed}
use Rattle.esc_frame.proofs.ByteRuns.CsiRuns.{run_joins}
use Rattle.esc_frame.specs.Stream.{IsAtGround, IsQuietWithin}
use Rattle.caret_notation.proofs.Spans.GroundIsTested.{from_bool}
use Rattle.caret_notation.proofs.Spans.SpansGrow.{goes_on, ground_ends, last_of}
use Rattle.caret_notation.specs.Judged.{IsQuietTo}
use Rattle.caret_notation.specs.Spans.{ends_in_line, is_at_ground, is_span, spans_after, rest_after}
use Rattle.caret_notation.specs.Revealed.{is_kept, span_text, revealed_after}
use Rattle.caret_notation.specs.Runs.{IsPart, has_line_end}
use Rattle.caret_notation.specs.Visible.{rest_text, shown_text}
use Rattle.caret_notation.specs.declared.marking.Marking.{Marking}

-- ---- the state of a framer after it

no_ground : (s : List ℕ) → (IsAtGround s → ⊥) → is_at_ground s ≡ false
no_ground s h = by_ground (is_at_ground s) refl
  where
    by_ground : (g : Bool) → is_at_ground s ≡ g → g ≡ false
    by_ground true e = absurd (h (from_bool s e))
    by_ground false e = refl

-- no line feed is among fewer bytes either
fewer : (by_lines : Bool) (n : ℕ) (x : List ℕ) → has_line_end by_lines x ≡ false
    → has_line_end by_lines (take n x) ≡ false
fewer false n x h = refl
fewer true n x h = by_any n x h
  where
    by_head : (t : Bool) (a b : Bool) → (t || a) ≡ false → (a ≡ false → b ≡ false)
        → (t || b) ≡ false
    by_head true a b h more = h
    by_head false a b h more = more h

    by_any : (n : ℕ) (x : List ℕ) → has_line_feed x ≡ false → has_line_feed (take n x) ≡ false
    by_any zero x h = refl
    by_any (suc n) [] h = refl
    by_any (suc n) (b ∷ x) h = by_head (is_line_feed b) (has_line_feed x)
        (has_line_feed (take n x)) h (by_any n x)

later : (by_lines : Bool) (n : ℕ) (x : List ℕ) → has_line_end by_lines x ≡ false
    → has_line_end by_lines (drop n x) ≡ false
later false n x h = refl
later true n x h = by_any n x h
  where
    by_head : (t a : Bool) → (t || a) ≡ false → a ≡ false
    by_head true a h = absurd cc
    by_head false a h = h

    by_any : (n : ℕ) (x : List ℕ) → has_line_feed x ≡ false → has_line_feed (drop n x) ≡ false
    by_any zero x h = h
    by_any (suc n) [] h = refl
    by_any (suc n) (b ∷ x) h = by_any n x (by_head (is_line_feed b) (has_line_feed x) h)

-- before the first one there is none, and there is none if there is none at all
pub feedless_before : (by_lines : Bool) (x : List ℕ) (n : ℕ) → n < length x
    → ((k : ℕ) → 0 ≤ k → k < n → is_line_feed (get_or x k 0) ≡ true → ⊥)
    → has_line_end by_lines (take n x) ≡ false
feedless_before false x n l h = refl
feedless_before true x n l h = no_line (take n x) (λ k a b e.
    let short : k < n = omega (arith, b, length-take-le n x (omega (arith, l))) in
    h k a short (ap is_line_feed (sym (get_or-take n x k 0 short)) ∙ e))

pub feedless_all : (by_lines : Bool) (x : List ℕ)
    → ((k : ℕ) → 0 ≤ k → k < length x → is_line_feed (get_or x k 0) ≡ true → ⊥)
    → has_line_end by_lines (take (length x) x) ≡ false
feedless_all false x h = refl
feedless_all true x h =
    ap has_line_feed (take_all (length x) x (omega arith)) ∙ no_line x h

-- the bytes from a place on
pub open_later : (by_lines : Bool) (n m : ℕ) (x : List ℕ) → has_line_end by_lines x ≡ false
    → has_line_end by_lines (take m (drop n x)) ≡ false
open_later by_lines n m x h = fewer by_lines m (drop n x) (later by_lines n x h)

pub part_of : (by_lines : Bool) (limit : Option ℕ) (r x : List ℕ) (n : ℕ) → 0 < n
    → n ≤ length x → has_line_end by_lines x ≡ false → IsQuietWithin limit r x n
    → IsPart by_lines r (take n x)
part_of by_lines limit r x n some few none quiet = record {
  some = omega (arith, length-take-le n x few);
  lineless = fewer by_lines n x none;
  quiet = λ k l m.
      let less : k < n = omega (arith, m, length-take-le n x few) in
      subst (λ y. is_at_ground (r ++ y) ≡ false) (sym (take-take k n x (omega arith)))
      (no_ground (r ++ take k x) (quiet k l less).1);
}

-- the same if nothing was unfinished
pub part_to : (by_lines : Bool) (x : List ℕ) (n : ℕ) → 0 < n → n ≤ length x
    → has_line_end by_lines x ≡ false → IsQuietTo n x → IsPart by_lines [] (take n x)
part_to by_lines x n some few none quiet = record {
  some = omega (arith, length-take-le n x few);
  lineless = fewer by_lines n x none;
  quiet = λ k l m.
      let less : k < n = omega (arith, m, length-take-le n x few) in
      subst (λ y. is_at_ground y ≡ false) (sym (take-take k n x (omega arith)))
      (quiet k l less);
}

-- some bytes, after which a segment is unfinished, and more
pub quiet_more : (limit : Option ℕ) (x : List ℕ) (at n : ℕ) → IsQuietTo at x
    → (0 < at → is_at_ground (take at x) ≡ false)
    → IsQuietWithin limit (take at x) (take (length x - at) (drop at x)) n
    → IsQuietTo (at + n) x
quiet_more limit x at n before here more k l m = elim (cases_lt k at) [
  | inl a ↦ before k l a
  | inr a ↦ by_rest (k - at) (omega arith)
]
  where
    by_rest : (i : ℕ) → at + i ≡ k → is_at_ground (take k x) ≡ false
    by_rest zero e =
        let same : at ≡ k = omega (arith, e) in
        subst (λ j. is_at_ground (take j x) ≡ false) same (here (omega (arith, same, l)))
    by_rest (suc i) e =
        subst (λ y. is_at_ground y ≡ false) (run_joins x at (suc i)
        ∙ ap (λ j. take j x) e)
        (no_ground (take at x ++ take (suc i) (take (length x - at) (drop at x)))
        (more (suc i) (omega arith) (omega (arith, e, m))).1)

-- ---- the text after it

module _ {A : Type 0} (m : Marking) (by_lines : Bool) (limit : ℕ) (admits : Value A → Bool) where
  abbrev all : List ℕ → List ℕ → List ℕ
  all r s = revealed_after {A = A} m by_lines limit admits r s

  -- a byte that ends no span
  passed_over : (r : List ℕ) (b : ℕ) (s : List ℕ) → is_span by_lines (r ++ b ∷ []) ≡ false
      → (rest_after by_lines r (b ∷ s) ≡ rest_after by_lines (r ++ b ∷ []) s)
      × (all r (b ∷ s) ≡ all (r ++ b ∷ []) s)
  passed_over r b s h = (
    ap (λ t. if t then rest_after by_lines [] s else rest_after by_lines (r ++ b ∷ []) s) h,
    ap (λ t. flat_map (span_text {A = A} m by_lines limit admits)
        (if t then (r ++ b ∷ []) ∷ spans_after by_lines [] s
        else spans_after by_lines (r ++ b ∷ []) s)
        ++ rest_text m limit (if t then rest_after by_lines [] s
        else rest_after by_lines (r ++ b ∷ []) s)) h,
  )

  -- the span has ended
  abbrev Ended : List ℕ → List ℕ → Type 0
  Ended r x = (rest_after by_lines r x ≡ [])
      × (all r x ≡ (if is_kept m limit admits (r ++ x) then r ++ x else shown_text m (r ++ x)))

  -- it goes on
  abbrev Open : List ℕ → List ℕ → Type 0
  Open r x = (rest_after by_lines r x ≡ r ++ x) × (all r x ≡ rest_text m limit (r ++ x))

  abbrev Makes : List ℕ → List ℕ → Type 0
  Makes r x =
      (is_at_ground (r ++ x) ≡ true → Ended r x) × (is_at_ground (r ++ x) ≡ false → Open r x)

  first_no : (b : ℕ) (s : List ℕ) → has_line_end by_lines (b ∷ s) ≡ false
      → (by_lines && is_line_feed b) ≡ false
  first_no b s h = by_both by_lines (is_line_feed b) (has_line_feed s) h
    where
      by_both : (l f g : Bool) → (l && (f || g)) ≡ false → (l && f) ≡ false
      by_both false f g h = refl
      by_both true true g h = h
      by_both true false g h = refl

  makes_more : (r : List ℕ) (b : ℕ) (s : List ℕ) → is_span by_lines (r ++ b ∷ []) ≡ false
      → Makes (r ++ b ∷ []) s → Makes r (b ∷ s)
  makes_more r b s h (ends, goes) =
      let step = passed_over r b s h in
      let same : (r ++ b ∷ []) ++ s ≡ r ++ b ∷ s = append_assoc r (b ∷ []) s in
      subst (λ y. (is_at_ground y ≡ true → (rest_after by_lines r (b ∷ s) ≡ [])
      × (all r (b ∷ s) ≡ (if is_kept m limit admits y then y else shown_text m y)))
      × (is_at_ground y ≡ false → (rest_after by_lines r (b ∷ s) ≡ y)
      × (all r (b ∷ s) ≡ rest_text m limit y))) same (
        λ g. let k = ends g in (step.0 ∙ k.0, step.1 ∙ k.1),
        λ g. let k = goes g in (step.0 ∙ k.0, step.1 ∙ k.1),
      )

  pub part_makes : (r x : List ℕ) → IsPart by_lines r x → Makes r x
  part_makes r [] h = absurd (omega (arith, h.some))
  part_makes r (b ∷ []) h =
      let no = first_no b [] h.lineless in
      (ground_ends m by_lines limit admits r b no, goes_on m by_lines limit admits r b no)
  part_makes r (b ∷ c ∷ s) h =
      let no = first_no b (c ∷ s) h.lineless in
      let line : ends_in_line by_lines (r ++ b ∷ []) ≡ false = last_of by_lines r b ∙ no in
      let more : IsPart by_lines (r ++ b ∷ []) (c ∷ s) = record {
        some = omega arith;
        lineless = later by_lines 1 (b ∷ c ∷ s) h.lineless;
        quiet = λ k l few.
            subst (λ y. is_at_ground y ≡ false) (sym (append_assoc r (b ∷ []) (take k (c ∷ s))))
            (h.quiet (suc k) (omega arith) (omega (arith, few)));
      } in
      makes_more r b (c ∷ s)
      (ap (λ t. t || is_at_ground (r ++ b ∷ [])) line ∙ h.quiet 1 (omega arith) (omega arith))
      (part_makes (r ++ b ∷ []) (c ∷ s) more)
