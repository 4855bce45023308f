-- Visible text passes each filter that lets clear characters pass.
use Rattle.std.proofs.Common.{ℕ, ◌≡◌, ◌<◌, ◌≤◌, ◌+◌, ◌-◌, ◌*◌, nat_le, Bool, true, false, if◌then◌else◌, List, [], ◌∷◌, ◌++◌, map, Some, arith, refl, ap, sym, ◌∙◌, true≢false}
use Rattle.std.specs.Char.{encode_utf8}
use Rattle.std.specs.List.{filter, list_all}
use Rattle.std.specs.Str.{encode_utf8_all}
use Rattle.std.proofs.lemmas.Bool.Decides.{nat_tests}
use Rattle.std.proofs.lemmas.Bool.{and_parts}
use Rattle.std.proofs.lemmas.List.{append-nil}
use Rattle.std.proofs.lemmas.List.Folds.{list_all-append}
use Rattle.std.proofs.lemmas.Str.{encodes-append}
use Rattle.esc_actions.specs.Meaning.{meaning_within, values_from}
use Rattle.esc_actions.specs.Texts.{list_text, texts_after}
use Rattle.esc_actions.specs.Values.{Value, plain, print}
use Rattle.esc_filter.specs.Passing.{passed_text, passes}
use Rattle.esc_frame.proofs.Cut.WellFormedIsUtf8.{number_two, spelled}
use Rattle.esc_frame.proofs.ByteRuns.ClearRuns.{clear_run}
use Rattle.esc_frame.specs.Events.Event.{Print}
use Rattle.esc_frame.specs.Sequences.{is_pair, is_sequence, number_of}
use Rattle.esc_frame.specs.Stream.{events_within}
use Rattle.esc_values.specs.Clear.{IsClearText, is_clear}
use Rattle.unicode_visibility.specs.Characters.{is_shown, number_text}
use Rattle.caret_notation.proofs.VisibleText.PartByPart.{AreHigh, all_parts}
use Rattle.caret_notation.proofs.VisibleText.VisibleShowsItself.{all_encode, hex_mere, is_mere, number_mere, single_mere}
use Rattle.caret_notation.specs.ReadBack.{is_byte}
use Rattle.caret_notation.specs.Visible.{character_text, hex_byte, single_text, stray_text, visible_text}

-- ---- it is a clear text

abbrev IsClear : List ℕ → List ℕ → Type 0
IsClear t x = IsClearText t

none : IsClear [] []
none = ([], refl, refl)

both : (t u x y : List ℕ) → IsClear t x → IsClear u y → IsClear (t ++ u) (x ++ y)
both t u x y (cs, all, e) (ds, more, f) = (
  cs ++ ds,
  rw (list_all-append is_clear cs ds, all, more) refl,
  encodes-append cs ds ∙ ap (λ z. z ++ encode_utf8_all ds) e ∙ ap (λ z. t ++ z) f,
)

mere_clear : (c : ℕ) → is_mere c ≡ true → is_clear c ≡ true
mere_clear c h = grind (arith, nat_tests)

all_clear : (t : List ℕ) → list_all is_mere t ≡ true → list_all is_clear t ≡ true
all_clear [] h = refl
all_clear (c ∷ t) h = let q = and_parts (is_mere c) (list_all is_mere t) h in
    rw (mere_clear c q.0, all_clear t q.1) refl

mere : (t x : List ℕ) → list_all is_mere t ≡ true → IsClear t x
mere t x h = (t, all_clear t h, all_encode t h)

single : (b : ℕ) → b < 0x100 → IsClear (single_text b) (b ∷ [])
single b h = mere (single_text b) (b ∷ []) (single_mere b h)

stray : (f : List ℕ) → AreHigh f → IsClear (stray_text f) f
stray [] h = none
stray (b ∷ f) h = both (hex_byte b) (stray_text f) (b ∷ []) f
    (mere (hex_byte b) (b ∷ []) (hex_mere b h.1)) (stray f h.2)

-- a control of C1 does not show
hidden : (a b : ℕ) → is_pair (a ∷ b ∷ []) ≡ true → is_shown (number_of (a ∷ b ∷ [])) ≡ false
unfolding is_pair
hidden a b h = rw (number_two a b)
    (low ((a - 0xc0) * 64 + (b - 0x80)) (grind (arith, nat_tests)) (grind (arith, nat_tests)))
  where
    low : (n : ℕ) → 0x80 ≤ n → n < 0xa0 → is_shown n ≡ false
    low n l k =
        let one : is_mere n ≡ false = grind (arith, nat_tests) in
        let two : nat_le 0xa0 n ≡ false = grind (arith, nat_tests) in rw (one, two) refl

pair_hidden : (x : List ℕ) → is_pair x ≡ true → is_shown (number_of x) ≡ false
unfolding is_pair
pair_hidden [] p = absurd (true≢false (sym p))
pair_hidden (a ∷ []) p = absurd (true≢false (sym p))
pair_hidden (a ∷ b ∷ []) p = hidden a b p
pair_hidden (a ∷ b ∷ c ∷ x) p = absurd (true≢false (sym p))

character : (x : List ℕ) → is_sequence x ≡ true → IsClear (character_text x) x
character x h = by_tests (is_shown (number_of x)) (is_pair x) refl refl
  where
    by_tests : (s p : Bool) → is_shown (number_of x) ≡ s → is_pair x ≡ p
        → IsClear (if s then x else number_text (number_of x)) x
    by_tests false p e k = mere (number_text (number_of x)) x (number_mere (number_of x))
    by_tests true true e k = absurd (true≢false (sym e ∙ pair_hidden x k))
    by_tests true false e k = let q = spelled x h k in (
      number_of x ∷ [],
      rw q.0 refl,
      append-nil (encode_utf8 (number_of x)) ∙ q.1,
    )

-- ---- the values of it that pass

chars_mean : {A : Type 0} (limit : ℕ) (cs : List ℕ) → list_all is_clear cs ≡ true
    → meaning_within {A = A} (Some limit) (encode_utf8_all cs) ≡ map print cs
unfolding events_within meaning_within
chars_mean {A = A} limit cs h =
    ap (values_from (Some limit) plain) (clear_run (Some limit) cs h).1 ∙ prints cs
  where
    prints : (cs : List ℕ) → values_from {A = A} (Some limit) plain (map Print cs) ≡ map print cs
    prints [] = refl
    prints (c ∷ cs) = ap (λ vs. print c ∷ vs) (prints cs)

chars_text : (A : Type 0) (cs : List ℕ)
    → texts_after {A = A} false (map print cs) ≡ encode_utf8_all cs
chars_text A [] = refl
chars_text A (c ∷ cs) = ap (λ t. encode_utf8 c ++ t) (chars_text A cs)

module _ {A : Type 0} (admits : Value A → Bool)
    (text : (c : ℕ) → is_clear c ≡ true → admits (print c) ≡ true) where
  chars_pass : (cs : List ℕ) → list_all is_clear cs ≡ true
      → filter (passes admits) (map print cs) ≡ map print cs
  chars_pass [] h = refl
  chars_pass (c ∷ cs) h =
      let q = and_parts (is_clear c) (list_all is_clear cs) h in
      ap (λ p. if p then print c ∷ filter (passes admits) (map print cs)
      else filter (passes admits) (map print cs)) (text c q.0)
      ∙ ap (λ vs. print c ∷ vs) (chars_pass cs q.1)

  pub shown_written : (limit : ℕ) (s : List ℕ) → list_all is_byte s ≡ true
      → passed_text (Some limit) admits (visible_text s) ≡ visible_text s
  shown_written limit s h =
      let (cs, clear, e) = all_parts IsClear none both single stray character s h in
      ap (passed_text (Some limit) admits) (sym e)
      ∙ ap (λ vs. list_text (filter (passes admits) vs)) (chars_mean limit cs clear)
      ∙ ap list_text (chars_pass cs clear) ∙ chars_text A cs ∙ e
