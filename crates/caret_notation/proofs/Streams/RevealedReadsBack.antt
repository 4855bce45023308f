-- The revealed text of a stream is read back as the stream.
use Rattle.std.proofs.Common.{ℕ, ◌≡◌, ◌||◌, ◌==◌, not, Bool, true, false, if◌then◌else◌, List, [], ◌∷◌, ◌++◌, refl, ap, sym, ◌∙◌, subst, append_assoc}
use Rattle.std.specs.List.{flat_map, list_all, list_any}
use Rattle.std.proofs.lemmas.Bool.{and_parts}
use Rattle.std.proofs.lemmas.List.{append-nil}
use Rattle.std.proofs.lemmas.List.Folds.{list_all-append, list_any-append}
use Rattle.esc_actions.specs.Values.{Value}
use Rattle.caret_notation.proofs.Spans.SpansGrow.{before_last, feed_is, last_of}
use Rattle.caret_notation.proofs.VisibleText.PartByPart.{all_parts}
use Rattle.caret_notation.proofs.VisibleText.ReadsBackAsBytes.{IsRead, read_both, read_character, read_itself, read_nothing, read_single, read_stray}
use Rattle.caret_notation.specs.Spans.{ends_in_line, is_span, spans_after, rest_after}
use Rattle.caret_notation.specs.ReadBack.{is_byte, read_back, read_from}
use Rattle.caret_notation.specs.ReadBack.Reading.{Plain}
use Rattle.caret_notation.specs.Revealed.{but_last, is_kept, span_text, revealed_whole, revealed_whole_as}
use Rattle.caret_notation.specs.Visible.{closing, is_mark, lets_stay, opening, shown_text, visible_text}
use Rattle.caret_notation.specs.declared.marking.Marking.{Marking}
use Rattle.caret_notation.specs.declared.marking.Marking.TheVariants as marking

abbrev has_mark : List ℕ → Bool
has_mark p = list_any is_mark p

neither : (x y : Bool) → (x || y) ≡ false → (x ≡ false) × (y ≡ false)
neither true y h = absurd cc
neither false y h = (refl, h)

no_mark : (x : Bool) → not x ≡ true → x ≡ false
no_mark true h = absurd cc
no_mark false h = refl

-- ---- bytes that are read as themselves

unmarked_read : (p : List ℕ) → has_mark p ≡ false → IsRead p p
unmarked_read [] h = read_nothing
unmarked_read (b ∷ p) h =
    let q = neither (is_mark b) (has_mark p) h in
    let k = neither (b == 0x3c) (b == 0x5e) q.0 in
    read_both (b ∷ []) p (b ∷ []) p (read_itself b k.0 k.1) (unmarked_read p q.1)

feed_read : IsRead (0x0a ∷ []) (0x0a ∷ [])
feed_read after = refl

-- ---- bytes that are told from marks

-- bytes, which have no mark if a span of them may stay
abbrev Fits : Marking → List ℕ → Type 0
Fits m p = (list_all is_byte p ≡ true) × (lets_stay m p ≡ true → has_mark p ≡ false)

marks_part : (m : Marking) (x y : List ℕ)
    → (lets_stay m (x ++ y) ≡ true → has_mark (x ++ y) ≡ false)
    → (lets_stay m x ≡ true → has_mark x ≡ false) × (lets_stay m y ≡ true → has_mark y ≡ false)
marks_part marking.Plain x y h =
    let q = neither (has_mark x) (has_mark y) (sym (list_any-append is_mark x y) ∙ h refl) in
    (λ _. q.0, λ _. q.1)
marks_part marking.Reversed x y h =
    let q = neither (has_mark x) (has_mark y) (sym (list_any-append is_mark x y) ∙ h refl) in
    (λ _. q.0, λ _. q.1)
marks_part marking.Escaped x y h = (no_mark (has_mark x), no_mark (has_mark y))

fits_part : (m : Marking) (x y : List ℕ) → Fits m (x ++ y) → Fits m x × Fits m y
fits_part m x y (h, k) =
    let q = and_parts (list_all is_byte x) (list_all is_byte y)
    (sym (list_all-append is_byte x y) ∙ h) in
    let p = marks_part m x y k in
    ((q.0, p.0), (q.1, p.1))

-- ---- spans, one after another

module _ {A : Type 0} (m : Marking) (bare : opening m ≡ []) (bare_end : closing m ≡ [])
    (by_lines : Bool) (limit : ℕ) (admits : Value A → Bool) where
  abbrev text : List ℕ → List ℕ
  text p = span_text {A = A} m by_lines limit admits p

  shown_read : (s : List ℕ) → list_all is_byte s ≡ true → IsRead (shown_text m s) s
  shown_read [] h = read_nothing
  shown_read (b ∷ s) h =
      let t = visible_text (b ∷ s) in
      subst (λ x. IsRead x (b ∷ s))
      (sym (ap (λ o. o ++ (t ++ closing m)) bare ∙ ap (λ c. t ++ c) bare_end ∙ append-nil t))
      (all_parts IsRead read_nothing read_both read_single read_stray read_character (b ∷ s) h)

  span_read : (r : List ℕ) (b : ℕ) → Fits m (r ++ b ∷ [])
      → IsRead (text (r ++ b ∷ [])) (r ++ b ∷ [])
  span_read r b (bytes, unmarked) =
      by_tests (ends_in_line by_lines p) (is_kept m limit admits p) refl refl
    where
      p : List ℕ
      p = r ++ b ∷ []

      feed : b ≡ 0x0a → IsRead (shown_text m (but_last p) ++ 0x0a ∷ []) p
      feed e = subst (λ x. IsRead (shown_text m x ++ 0x0a ∷ []) p) (sym (before_last r b))
          (subst (λ c. IsRead (shown_text m r ++ 0x0a ∷ []) (r ++ c ∷ [])) (sym e)
          (read_both (shown_text m r) (0x0a ∷ []) r (0x0a ∷ [])
          (shown_read r (fits_part m r (b ∷ []) (bytes, unmarked)).0.0) feed_read))

      by_tests : (x y : Bool) → ends_in_line by_lines p ≡ x → is_kept m limit admits p ≡ y
          → IsRead (if x then shown_text m (but_last p) ++ 0x0a ∷ []
          else if y then p else shown_text m p) p
      by_tests true y e k = feed (feed_is by_lines b (sym (last_of by_lines r b) ∙ e))
      by_tests false true e k =
          unmarked_read p (unmarked (and_parts _ _ (and_parts _ _ k).0).1)
      by_tests false false e k = shown_read p bytes

  abbrev all : List ℕ → List ℕ → List ℕ
  all r s = flat_map text (spans_after by_lines r s) ++ shown_text m (rest_after by_lines r s)

  all_read : (r s : List ℕ) → Fits m (r ++ s) → IsRead (all r s) (r ++ s)
  all_read r [] h =
      subst (IsRead (shown_text m r)) (sym (append-nil r)) (shown_read r (fits_part m r [] h).0.0)
  all_read r (b ∷ s) h =
      subst (IsRead (all r (b ∷ s))) same
      (by_span (is_span by_lines q) (span_read r b parts.0) (all_read [] s parts.1)
      (all_read q s fits))
    where
      q : List ℕ
      q = r ++ b ∷ []

      same : q ++ s ≡ r ++ b ∷ s
      same = append_assoc r (b ∷ []) s

      fits : Fits m (q ++ s)
      fits = subst (Fits m) (sym same) h

      parts : Fits m q × Fits m s
      parts = fits_part m q s fits

      by_span : (t : Bool) → IsRead (text q) q → IsRead (all [] s) s → IsRead (all q s) (q ++ s)
          → IsRead (flat_map text (if t then q ∷ spans_after by_lines [] s
          else spans_after by_lines q s)
          ++ shown_text m (if t then rest_after by_lines [] s else rest_after by_lines q s))
          (q ++ s)
      by_span true one more k =
          subst (λ x. IsRead x (q ++ s))
          (sym (append_assoc (text q) (flat_map text (spans_after by_lines [] s))
          (shown_text m (rest_after by_lines [] s))))
          (read_both (text q) (all [] s) q s one more)
      by_span false one more k = k

  whole_read : (s : List ℕ) → Fits m s
      → read_back (revealed_whole_as {A = A} m by_lines limit admits s) ≡ s
  whole_read s h =
      ap (read_from Plain) (sym (append-nil (all [] s))) ∙ all_read [] s h [] ∙ append-nil s

pub escaped_reads : {A : Type 0} (by_lines : Bool) (limit : ℕ) (admits : Value A → Bool)
    (s : List ℕ) → list_all is_byte s ≡ true
    → read_back (revealed_whole_as {A = A} marking.Escaped by_lines limit admits s) ≡ s
escaped_reads by_lines limit admits s h =
    whole_read marking.Escaped refl refl by_lines limit admits s (h, no_mark (has_mark s))

pub unmarked_reads : {A : Type 0} (by_lines : Bool) (limit : ℕ) (admits : Value A → Bool)
    (s : List ℕ) → list_all is_byte s ≡ true → list_any is_mark s ≡ false
    → read_back (revealed_whole {A = A} by_lines limit admits s) ≡ s
unmarked_reads by_lines limit admits s h none =
    whole_read marking.Plain refl refl by_lines limit admits s (h, λ _. none)
