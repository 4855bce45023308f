-- Spans of a stream, as it grows.
use Rattle.std.proofs.Common.{ℕ, ◌≡◌, ◌&&◌, ◌||◌, Bool, true, false, nat_le, if◌then◌else◌, List, [], ◌∷◌, ◌++◌, arith, refl, ap, sym, ◌∙◌, append_assoc}
use Rattle.std.specs.List.{flat_map}
use Rattle.std.proofs.lemmas.Bool.Decides.{nat_tests}
use Rattle.std.proofs.lemmas.Bool.{and_parts}
use Rattle.std.proofs.lemmas.Grind.{flat_map-append}
use Rattle.std.proofs.lemmas.List.{append-nil}
use Rattle.esc_actions.specs.Values.{Value}
use Rattle.esc_filter.proofs.ByLine.BytesOfLines.{ends_append}
use Rattle.esc_filter.specs.Lines.{is_line_feed}
use Rattle.caret_notation.specs.Grown.{Grows}
use Rattle.caret_notation.specs.Spans.{ends_in_line, is_at_ground, is_span, spans_after, rest_after}
use Rattle.caret_notation.specs.Revealed.{but_last, is_kept, span_text, revealed_after}
use Rattle.caret_notation.proofs.VisibleText.ShownInTurn.{rest_whole}
use Rattle.caret_notation.specs.Visible.{rest_text, shown_text}
use Rattle.caret_notation.specs.declared.marking.Marking.{Marking}

-- ---- texts that grew

pub grows_then : (a b c x y z : List ℕ) → Grows a b x y → Grows b c y z → Grows a c x z
grows_then a b c x y z (t, e, f) (u, g, h) = (
  t ++ u,
  g ∙ ap (λ w. w ++ u) e ∙ append_assoc x t u,
  h ∙ ap (λ w. w ++ u) f ∙ append_assoc a t u,
)

pub grows_not : (a x : List ℕ) → Grows a a x x
grows_not a x = ([], sym (append-nil x), sym (append-nil a))

-- ---- bytes, and then more

module _ (by_lines : Bool) where
  pub rest_append : (r x y : List ℕ)
      → rest_after by_lines r (x ++ y) ≡ rest_after by_lines (rest_after by_lines r x) y
  rest_append r [] y = refl
  rest_append r (b ∷ x) y =
      by_span (is_span by_lines (r ++ b ∷ [])) (rest_append [] x y)
      (rest_append (r ++ b ∷ []) x y)
    where
      by_span : (t : Bool)
          → rest_after by_lines [] (x ++ y) ≡ rest_after by_lines (rest_after by_lines [] x) y
          → rest_after by_lines (r ++ b ∷ []) (x ++ y)
          ≡ rest_after by_lines (rest_after by_lines (r ++ b ∷ []) x) y
          → (if t then rest_after by_lines [] (x ++ y)
          else rest_after by_lines (r ++ b ∷ []) (x ++ y))
          ≡ rest_after by_lines
          (if t then rest_after by_lines [] x else rest_after by_lines (r ++ b ∷ []) x) y
      by_span true h k = h
      by_span false h k = k

  pub spans_append : (r x y : List ℕ) → spans_after by_lines r (x ++ y)
      ≡ spans_after by_lines r x ++ spans_after by_lines (rest_after by_lines r x) y
  spans_append r [] y = refl
  spans_append r (b ∷ x) y =
      by_span (is_span by_lines (r ++ b ∷ [])) (spans_append [] x y)
      (spans_append (r ++ b ∷ []) x y)
    where
      by_span : (t : Bool)
          → spans_after by_lines [] (x ++ y)
          ≡ spans_after by_lines [] x ++ spans_after by_lines (rest_after by_lines [] x) y
          → spans_after by_lines (r ++ b ∷ []) (x ++ y)
          ≡ spans_after by_lines (r ++ b ∷ []) x
          ++ spans_after by_lines (rest_after by_lines (r ++ b ∷ []) x) y
          → (if t then (r ++ b ∷ []) ∷ spans_after by_lines [] (x ++ y)
          else spans_after by_lines (r ++ b ∷ []) (x ++ y))
          ≡ (if t then (r ++ b ∷ []) ∷ spans_after by_lines [] x
          else spans_after by_lines (r ++ b ∷ []) x)
          ++ spans_after by_lines
          (if t then rest_after by_lines [] x else rest_after by_lines (r ++ b ∷ []) x) y
      by_span true h k = ap (λ ps. (r ++ b ∷ []) ∷ ps) h
      by_span false h k = k

pub rest_none : (m : Marking) (limit : ℕ) → rest_text m limit [] ≡ []
rest_none m limit = rest_whole m limit [] (none limit)
  where
    none : (limit : ℕ) → nat_le 0 limit ≡ true
    none limit = grind (arith, nat_tests)

module _ {A : Type 0} (m : Marking) (by_lines : Bool) (limit : ℕ) (admits : Value A → Bool) where
  abbrev text : List ℕ → List ℕ
  text p = span_text {A = A} m by_lines limit admits p

  abbrev all : List ℕ → List ℕ → List ℕ
  all r s = revealed_after {A = A} m by_lines limit admits r s

  pub all_append : (r x y : List ℕ) → all r (x ++ y)
      ≡ flat_map text (spans_after by_lines r x) ++ all (rest_after by_lines r x) y
  all_append r x y =
      let f = flat_map text (spans_after by_lines r x) in
      let k = rest_after by_lines r x in
      let g = flat_map text (spans_after by_lines k y) in
      ap (λ ps. flat_map text ps ++ rest_text m limit (rest_after by_lines r (x ++ y)))
      (spans_append by_lines r x y)
      ∙ ap (λ t. t ++ rest_text m limit (rest_after by_lines r (x ++ y)))
      (flat_map-append text (spans_after by_lines r x) (spans_after by_lines k y))
      ∙ append_assoc f g (rest_text m limit (rest_after by_lines r (x ++ y)))
      ∙ ap (λ z. f ++ (g ++ rest_text m limit z)) (rest_append by_lines r x y)

  -- a text that grew by a prefix, and then by the rest
  pub grows_more : (r x y a b c : List ℕ) → Grows a b (rest_text m limit r) (all r x)
      → Grows b c (rest_text m limit (rest_after by_lines r x)) (all (rest_after by_lines r x) y)
      → Grows a c (rest_text m limit r) (all r (x ++ y))
  grows_more r x y a b c (t, e, f) (u, g, h) =
      let done = flat_map text (spans_after by_lines r x) in
      let k = rest_text m limit (rest_after by_lines r x) in (
        t ++ u,
        all_append r x y ∙ ap (λ z. done ++ z) g ∙ sym (append_assoc done k u)
            ∙ ap (λ z. z ++ u) e ∙ append_assoc (rest_text m limit r) t u,
        h ∙ ap (λ z. z ++ u) f ∙ append_assoc a t u,
      )

  pub nothing_more : (r a : List ℕ) → Grows a a (rest_text m limit r) (all r [])
  nothing_more r a = grows_not a (rest_text m limit r)

  -- ---- one byte

  pub span_ends : (r : List ℕ) (b : ℕ) → is_span by_lines (r ++ b ∷ []) ≡ true
      → (rest_after by_lines r (b ∷ []) ≡ []) × (all r (b ∷ []) ≡ text (r ++ b ∷ []))
  span_ends r b h = (
    ap (λ t. if t then [] else r ++ b ∷ []) h,
    ap (λ t. flat_map text (if t then (r ++ b ∷ []) ∷ [] else [])
        ++ rest_text m limit (if t then [] else r ++ b ∷ [])) h
        ∙ ap (λ z. (text (r ++ b ∷ []) ++ []) ++ z) (rest_none m limit)
        ∙ append-nil (text (r ++ b ∷ []) ++ []) ∙ append-nil (text (r ++ b ∷ [])),
  )

  pub span_goes : (r : List ℕ) (b : ℕ) → is_span by_lines (r ++ b ∷ []) ≡ false
      → (rest_after by_lines r (b ∷ []) ≡ r ++ b ∷ [])
      × (all r (b ∷ []) ≡ rest_text m limit (r ++ b ∷ []))
  span_goes r b h = (
    ap (λ t. if t then [] else r ++ b ∷ []) h,
    ap (λ t. flat_map text (if t then (r ++ b ∷ []) ∷ [] else [])
        ++ rest_text m limit (if t then [] else r ++ b ∷ [])) h,
  )

-- ---- the last byte

pub last_of : (by_lines : Bool) (r : List ℕ) (b : ℕ)
    → ends_in_line by_lines (r ++ b ∷ []) ≡ (by_lines && is_line_feed b)
last_of by_lines r b = ap (λ t. by_lines && t) (ends_append false r (b ∷ []))

pub before_last : (r : List ℕ) (b : ℕ) → but_last (r ++ b ∷ []) ≡ r
before_last [] b = refl
before_last (a ∷ []) b = refl
before_last (a ∷ c ∷ r) b = ap (λ s. a ∷ s) (before_last (c ∷ r) b)

pub feed_is : (by_lines : Bool) (b : ℕ) → (by_lines && is_line_feed b) ≡ true → b ≡ 0x0a
feed_is by_lines b h = is_feed b (and_parts by_lines (is_line_feed b) h).1
  where
    is_feed : (b : ℕ) → is_line_feed b ≡ true → b ≡ 0x0a
    is_feed b h = grind (arith, nat_tests)

module _ {A : Type 0} (m : Marking) (by_lines : Bool) (limit : ℕ) (admits : Value A → Bool)
    (r : List ℕ) (b : ℕ) where
  -- if a line feed ends the span
  pub line_ends : (by_lines && is_line_feed b) ≡ true
      → (rest_after by_lines r (b ∷ []) ≡ [])
      × (revealed_after {A = A} m by_lines limit admits r (b ∷ []) ≡ shown_text m r ++ b ∷ [])
  line_ends h =
      let p = r ++ b ∷ [] in
      let ends = last_of by_lines r b ∙ h in
      let one = span_ends m by_lines limit admits r b (ap (λ t. t || is_at_ground p) ends) in (
        one.0,
        one.1
            ∙ ap (λ t. if t then shown_text m (but_last p) ++ 0x0a ∷ []
            else if is_kept m limit admits p then p else shown_text m p) ends
            ∙ ap (λ z. shown_text m z ++ 0x0a ∷ []) (before_last r b)
            ∙ ap (λ c. shown_text m r ++ c ∷ []) (sym (feed_is by_lines b h)),
      )

  module _ (no : (by_lines && is_line_feed b) ≡ false) where
    -- if no segment is unfinished after it
    pub ground_ends : is_at_ground (r ++ b ∷ []) ≡ true
        → (rest_after by_lines r (b ∷ []) ≡ [])
        × (revealed_after {A = A} m by_lines limit admits r (b ∷ [])
        ≡ (if is_kept m limit admits (r ++ b ∷ []) then r ++ b ∷ []
        else shown_text m (r ++ b ∷ [])))
    ground_ends h =
        let p = r ++ b ∷ [] in
        let goes = last_of by_lines r b ∙ no in
        let one = span_ends m by_lines limit admits r b
        (ap (λ t. t || is_at_ground p) goes ∙ h) in (
          one.0,
          one.1 ∙ ap (λ t. if t then shown_text m (but_last p) ++ 0x0a ∷ []
              else if is_kept m limit admits p then p else shown_text m p) goes,
        )

    -- if one is
    pub goes_on : is_at_ground (r ++ b ∷ []) ≡ false
        → (rest_after by_lines r (b ∷ []) ≡ r ++ b ∷ [])
        × (revealed_after {A = A} m by_lines limit admits r (b ∷ [])
        ≡ rest_text m limit (r ++ b ∷ []))
    goes_on h =
        let p = r ++ b ∷ [] in
        let goes = last_of by_lines r b ∙ no in
        span_goes m by_lines limit admits r b (ap (λ t. t || is_at_ground p) goes ∙ h)
