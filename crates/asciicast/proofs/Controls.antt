-- Lines that are spelled.
use Rattle.std.proofs.Common.{arith, ℕ, ◌≡◌, ◌<◌, ◌/◌, ◌%◌, ◌==◌, true, false, List, [], ◌∷◌, ◌++◌, refl, ap, sym, ◌∙◌, append-nil, append_assoc, inl, inr, length, chars, IsUtf8, encode_utf8_all}
use Rattle.std.specs.Char.{encode_utf8}
use Rattle.std.specs.List.{flat_map, list_all}
use Rattle.std.proofs.lemmas.Bool.{cases_Bool}
use Rattle.std.proofs.lemmas.Bool.Decides.{nat_tests}
use Rattle.std.proofs.lemmas.List.Folds.{list_all-append}
use Rattle.std.proofs.lemmas.Str.{chars-nil, chars_past_char, encodes-append, encodes-chars}
use Rattle.asciicast.specs.Recordings.{IsShownText, hex_digit, is_shown, is_shown_line, spelled_char, spelled_line}

digit_shows : (n : ℕ) → n < 16 → is_shown (hex_digit n) ≡ true
digit_shows n h = grind (arith, nat_tests)

control_fits : (c : ℕ) → is_shown c ≡ false → c < 256
control_fits c h = grind (arith, nat_tests)

-- the text that a character is spelled as
one_shows : (c : ℕ) → list_all is_shown (spelled_char c) ≡ true
one_shows c = elim (cases_Bool (is_shown c)) [
  | inl is ↦ rw (is, is) refl
  | inr hidden ↦ elim (cases_Bool (c == 0x0d)) [
    | inl back ↦ rw (hidden, back) refl
    | inr back ↦ elim (cases_Bool (c == 0x09)) [
      | inl tab ↦ rw (hidden, back, tab) refl
      | inr tab ↦
          let fits = control_fits c hidden in
          let high = digit_shows (c / 16) (omega arith) in
          let low = digit_shows (c % 16) (omega arith) in
          rw (hidden, back, tab, high, low) refl
    ]
  ]
]

all_show : (cs : List ℕ) → list_all is_shown (flat_map spelled_char cs) ≡ true
all_show [] = refl
all_show (c ∷ cs) =
    rw (
      list_all-append is_shown (spelled_char c) (flat_map spelled_char cs),
      one_shows c,
      all_show cs,
    ) refl

pub line_shows : (l : List ℕ) → IsUtf8 l → IsShownText (spelled_line l)
line_shows l u = elim (cases_Bool (is_shown_line l)) [
  | inl is ↦ rw is (chars l, is, encodes-chars l u)
  | inr hidden ↦ rw hidden (flat_map spelled_char (chars l), all_show (chars l), refl)
]

-- after the next character
pub spelled_step : (c : ℕ) (w done s t : List ℕ) → IsUtf8 s → s ≡ encode_utf8 c ++ t
    → done ++ encode_utf8_all (flat_map spelled_char (chars s)) ≡ w
    → (done ++ encode_utf8_all (spelled_char c))
    ++ encode_utf8_all (flat_map spelled_char (chars t)) ≡ w
spelled_step c w done s t u h e =
    append_assoc done (encode_utf8_all (spelled_char c)) _
    ∙ ap (λ z. done ++ z)
    (sym (encodes-append (spelled_char c) (flat_map spelled_char (chars t)))
    ∙ ap (λ z. encode_utf8_all (flat_map spelled_char z)) (sym (chars_past_char s t c u h)))
    ∙ e

-- after the last one
pub spelled_end : (w done s : List ℕ) → length s ≡ 0
    → done ++ encode_utf8_all (flat_map spelled_char (chars s)) ≡ w → done ≡ w
spelled_end w done [] l e =
    sym (append-nil done)
    ∙ ap (λ z. done ++ encode_utf8_all (flat_map spelled_char z)) (sym chars-nil) ∙ e
spelled_end w done (x ∷ xs) l e = absurd (omega arith)
