-- Characters, each of which is a span by itself.
use Rattle.std.proofs.Common.{ℕ, ◌≡◌, ◌<◌, ◌≤◌, ◌&&◌, ◌||◌, not, inl, inr, Bool, true, false, nat_le, if◌then◌else◌, List, [], ◌∷◌, ◌++◌, length, take, Some, arith, refl, ap, sym, ◌∙◌, subst}
use Rattle.std.specs.Char.{encode_utf8}
use Rattle.std.specs.List.{flat_map, list_all, list_any}
use Rattle.std.specs.Str.{IsUtf8, chars, encode_utf8_all}
use Rattle.std.proofs.lemmas.Bool.Decides.{nat_tests}
use Rattle.std.proofs.lemmas.Bool.{and_parts}
use Rattle.std.proofs.lemmas.List.{append-nil, take_all}
use Rattle.std.proofs.lemmas.List.Folds.{list_any-append}
use Rattle.std.proofs.lemmas.Slice.Eq.{bytes_eq-Decides}
use Rattle.std.proofs.lemmas.Str.{encode_ascii, encodes-chars, len_utf8_bounds, length-encode}
use Rattle.esc_actions.specs.Meaning.{meaning_within, values_from}
use Rattle.esc_actions.specs.Texts.{list_text}
use Rattle.esc_actions.specs.Values.{Value, plain, print}
use Rattle.esc_filter.specs.Lines.{has_line_feed, is_line_feed}
use Rattle.esc_frame.proofs.Cut.WellFormedIsUtf8.{clear_cases, spells_clear}
use Rattle.esc_frame.proofs.ByteRuns.ClearRuns.{clear_run, free_text_clear}
use Rattle.esc_frame.proofs.Emits.StopsAtFirstEvent.{character_still}
use Rattle.esc_frame.specs.Events.Event.{Print}
use Rattle.esc_frame.specs.Leads.Unfinished.{Ground}
use Rattle.esc_frame.specs.Machine.Characters.{IsCharacter}
use Rattle.esc_frame.specs.Machine.Moves.{after_all, events_all, is_ground}
use Rattle.esc_frame.specs.Scans.{IsFreeTo, is_text_byte}
use Rattle.esc_frame.specs.Stream.{events_within}
use Rattle.esc_values.specs.Clear.{is_clear}
use Rattle.caret_notation.proofs.Spans.MoreOfSpan.{part_makes}
use Rattle.caret_notation.proofs.Spans.SpansGrow.{all_append, rest_append, rest_none}
use Rattle.caret_notation.proofs.VisibleText.PartByPart.{AreHigh}
use Rattle.caret_notation.proofs.VisibleText.ReadsBackAsBytes.{sequence_high}
use Rattle.caret_notation.specs.Spans.{is_at_ground, spans_after, rest_after}
use Rattle.caret_notation.specs.Revealed.{are_kept, is_kept, span_text, revealed_after}
use Rattle.caret_notation.specs.Runs.{IsAdmittedText, IsPart, has_line_end}
use Rattle.caret_notation.specs.Visible.{is_mark, lets_stay, rest_text, shown_text}
use Rattle.caret_notation.specs.declared.marking.Marking.{Marking}
use Rattle.caret_notation.specs.declared.marking.Marking.TheVariants as marking
use Rattle.caret_notation.specs.Spelled.{is_control_sequence, is_single, is_spelled, is_text_of}

-- ---- no line feed

high_feed : (x : List ℕ) → AreHigh x → has_line_feed x ≡ false
high_feed [] h = refl
high_feed (b ∷ x) h =
    let l = h.0 in
    let k : is_line_feed b ≡ false = grind (arith, nat_tests) in
    rw (k, high_feed x h.2) refl

feedless : (by_lines : Bool) (x : List ℕ) → has_line_feed x ≡ false
    → has_line_end by_lines x ≡ false
feedless false x h = refl
feedless true x h = h

-- ---- one character

-- the facts about its bytes
record IsOne (x : List ℕ) : Type 0 where
  feed : has_line_feed x ≡ false
  quiet : (k : ℕ) → 0 < k → k < length x → is_at_ground (take k x) ≡ false

ascii_one : (c : ℕ) → 0x20 ≤ c → IsOne (c ∷ [])
ascii_one c l =
    let k : is_line_feed c ≡ false = grind (arith, nat_tests) in
    record { feed = rw k refl; quiet = λ k a b. absurd (omega (arith, a, b)) }

wide_quiet : (x : List ℕ) (c : ℕ) → IsCharacter x c → (k : ℕ) → 0 < k → k < length x
    → is_at_ground (take k x) ≡ false
unfolding is_at_ground
wide_quiet x c h k a b =
    (character_still (Some 0) x (length x) c (omega arith)
    (subst (λ y. IsCharacter y c) (sym (take_all (length x) x (omega arith))) h) k a b).1

wide_one : (x : List ℕ) (c : ℕ) → IsCharacter x c → IsOne x
wide_one x c h = record {
  feed = high_feed x (sequence_high x h.0);
  quiet = wide_quiet x c h;
}

char_one : (c : ℕ) → is_clear c ≡ true → IsOne (encode_utf8 c)
char_one c h = let q = clear_cases c h in elim q.1 [
  | inl l ↦ subst IsOne (sym (encode_ascii c l.1)) (ascii_one c l.0)
  | inr l ↦ let w = spells_clear c q.0 l in wide_one (encode_utf8 c) c (w.0, w.1, sym w.2)
]

-- it is its text
char_spelled : (A : Type 0) (c : ℕ)
    → is_spelled (encode_utf8 c) (list_text {A = A} (print c ∷ [])) ≡ true
char_spelled A c =
    let x = encode_utf8 c in
    ap (λ t. is_spelled x t) (append-nil x)
    ∙ by_same (is_single x) (is_control_sequence x) (is_text_of x x) (same x)
  where
    same : (x : List ℕ) → is_text_of x x ≡ true
    same x = rw ((bytes_eq-Decides x x).1 refl) refl

    by_same : (a b t : Bool) → t ≡ true → (a || (b || t)) ≡ true
    by_same true b t e = refl
    by_same false true t e = refl
    by_same false false t e = e

char_ground : (c : ℕ) → is_clear c ≡ true → is_at_ground (encode_utf8 c) ≡ true
unfolding is_at_ground
char_ground c h =
    ap (λ y. is_ground (after_all Ground y)) (sym (append-nil (encode_utf8 c)))
    ∙ ap is_ground (clear_run (Some 0) (c ∷ []) (ap (λ t. t && true) h)).0

char_events : (limit c : ℕ) → is_clear c ≡ true
    → events_within (Some limit) (encode_utf8 c) ≡ Print c ∷ []
unfolding events_within
char_events limit c h =
    ap (events_all (Some limit) Ground) (sym (append-nil (encode_utf8 c)))
    ∙ (clear_run (Some limit) (c ∷ []) (ap (λ t. t && true) h)).1

char_means : {A : Type 0} (limit c : ℕ) → is_clear c ≡ true
    → meaning_within {A = A} (Some limit) (encode_utf8 c) ≡ print c ∷ []
unfolding meaning_within
char_means limit c h = ap (values_from (Some limit) plain) (char_events limit c h)

-- ---- marks

none_of : (x y : Bool) → not (x || y) ≡ true → (not x ≡ true) × (not y ≡ true)
none_of true y h = absurd cc
none_of false y h = (refl, h)

both_free : (m : Marking) (x y : List ℕ) → lets_stay m (x ++ y) ≡ true
    → (lets_stay m x ≡ true) × (lets_stay m y ≡ true)
both_free marking.Plain x y h = (refl, refl)
both_free marking.Reversed x y h = (refl, refl)
both_free marking.Escaped x y h =
    none_of (list_any is_mark x) (list_any is_mark y)
    (ap not (sym (list_any-append is_mark x y)) ∙ h)

module _ {A : Type 0} (m : Marking) (by_lines : Bool) (limit : ℕ) (admits : Value A → Bool)
    (room : 4 ≤ limit) where
  char_kept : (c : ℕ) → is_clear c ≡ true → admits (print c) ≡ true
      → lets_stay m (encode_utf8 c) ≡ true → is_kept m limit admits (encode_utf8 c) ≡ true
  char_kept c h a free =
      let x = encode_utf8 c in
      let n = length x in
      let few : n ≤ limit = omega (arith, room, length-encode c, (len_utf8_bounds c).1) in
      let short : nat_le n limit ≡ true = grind (arith, nat_tests) in
      let spelled : Bool = is_spelled x (list_text {A = A} (print c ∷ [])) in
      ap (λ vs. (nat_le n limit && lets_stay m x)
      && (are_kept admits vs && is_spelled x (list_text vs))) (char_means limit c h)
      ∙ ap (λ b. (b && lets_stay m x) && (are_kept admits (print c ∷ []) && spelled)) short
      ∙ ap (λ b. b && (are_kept admits (print c ∷ []) && spelled)) free
      ∙ ap (λ b. (b && true) && spelled) a ∙ char_spelled A c

  char_part : (c : ℕ) → is_clear c ≡ true → IsPart by_lines [] (encode_utf8 c)
  char_part c h = record {
    some = omega (arith, length-encode c, (len_utf8_bounds c).0);
    lineless = feedless by_lines (encode_utf8 c) (char_one c h).feed;
    quiet = (char_one c h).quiet;
  }

  -- nothing of these bytes is unfinished, and they stay as they are
  abbrev pub Stays : List ℕ → Type 0
  Stays x = (rest_after by_lines [] x ≡ [])
      × (revealed_after {A = A} m by_lines limit admits [] x ≡ x)

  char_stays : (c : ℕ) → is_clear c ≡ true → admits (print c) ≡ true
      → lets_stay m (encode_utf8 c) ≡ true → Stays (encode_utf8 c)
  char_stays c h a free =
      let x = encode_utf8 c in
      let ends = (part_makes m by_lines limit admits [] x (char_part c h)).0 (char_ground c h) in
      (ends.0, ends.1 ∙ ap (λ k. if k then x else shown_text m x) (char_kept c h a free))

  both_stay : (x y : List ℕ) → Stays x → Stays y → Stays (x ++ y)
  both_stay x y one more =
      let done = flat_map (span_text m by_lines limit admits) (spans_after by_lines [] x) in
      let first : done ≡ x =
      sym (append-nil done) ∙ ap (λ z. done ++ z) (sym (rest_none m limit))
      ∙ ap (λ z. done ++ rest_text m limit z) (sym one.0) ∙ one.1 in (
        rest_append by_lines [] x y ∙ ap (λ z. rest_after by_lines z y) one.0 ∙ more.0,
        all_append m by_lines limit admits [] x y
            ∙ ap (λ z. done ++ revealed_after {A = A} m by_lines limit admits z y) one.0
            ∙ ap (λ z. done ++ z) more.1 ∙ ap (λ z. z ++ y) first,
      )

  chars_stay : (cs : List ℕ) → list_all is_clear cs ≡ true
      → list_all (λ c. admits (print c)) cs ≡ true → lets_stay m (encode_utf8_all cs) ≡ true
      → Stays (encode_utf8_all cs)
  chars_stay [] h a free = (refl, rest_none m limit)
  chars_stay (c ∷ cs) h a free =
      let p = and_parts (is_clear c) (list_all is_clear cs) h in
      let q = and_parts (admits (print c)) (list_all (λ c. admits (print c)) cs) a in
      let f = both_free m (encode_utf8 c) (encode_utf8_all cs) free in
      both_stay (encode_utf8 c) (encode_utf8_all cs) (char_stays c p.0 q.0 f.0)
      (chars_stay cs p.1 q.1 f.1)

  pub admitted_stays : (x : List ℕ) → IsAdmittedText admits x → lets_stay m x ≡ true → Stays x
  admitted_stays x (cs, clear, passes, e) free =
      subst Stays e (chars_stay cs clear passes (ap (lets_stay m) e ∙ free))

-- ---- runs

ascii_clear : (c : ℕ) → is_text_byte c ≡ true → is_clear c ≡ true
ascii_clear c h = grind (arith, nat_tests)

ascii_all : (x : List ℕ) → list_all is_text_byte x ≡ true
    → (list_all is_clear x ≡ true) × (encode_utf8_all x ≡ x)
ascii_all [] h = (refl, refl)
ascii_all (c ∷ x) h =
    let q = and_parts (is_text_byte c) (list_all is_text_byte x) h in
    let more = ascii_all x q.1 in
    let b = q.0 in
    let low : c < 128 = grind (arith, nat_tests) in
    (rw (ascii_clear c q.0, more.0) refl, rw (encode_ascii c low, more.1) refl)

pub ascii_admitted : {A : Type 0} (admits : Value A → Bool) (x : List ℕ)
    → list_all is_text_byte x ≡ true → list_all (λ c. admits (print c)) x ≡ true
    → IsAdmittedText admits x
ascii_admitted admits x h a = let q = ascii_all x h in (x, q.0, a, q.1)

pub wide_admitted : {A : Type 0} (admits : Value A → Bool) (x text : List ℕ) (n : ℕ)
    → IsFreeTo x n → text ≡ take n x → IsUtf8 (take n x)
    → list_all (λ c. admits (print c)) (chars text) ≡ true → IsAdmittedText admits (take n x)
wide_admitted admits x text n free same u a = (
  chars (take n x),
  free_text_clear x n free u,
  subst (λ y. list_all (λ c. admits (print c)) (chars y) ≡ true) same a,
  encodes-chars (take n x) u,
)

pub none_admitted : {A : Type 0} (admits : Value A → Bool) → IsAdmittedText admits []
none_admitted admits = ([], refl, refl, refl)
