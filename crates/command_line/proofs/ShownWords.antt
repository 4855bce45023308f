-- The text of a word has no character but such as show themselves.
use Rattle.std.proofs.Common.{arith, ℕ, ◌≡◌, ◌<◌, ◌/◌, ◌%◌, ◌==◌, ◌&&◌, Bool, true, false, List, [], ◌∷◌, ◌++◌, refl, ap, sym, ◌∙◌, append-nil, append_assoc, length, inl, inr, not, zero, suc, codes}
use Rattle.std.specs.Char.{encode_utf8}
use Rattle.std.specs.Fmt.{digit_glyph, digits, digits_onto}
use Rattle.std.specs.List.{list_all}
use Rattle.std.specs.Str.{IsUtf8, chars, encode_utf8_all}
use Rattle.std.proofs.lemmas.Bool.{and_parts, cases_Bool}
use Rattle.std.proofs.lemmas.Bool.Decides.{nat_tests}
use Rattle.std.proofs.lemmas.List.Folds.{list_all-append}
use Rattle.std.proofs.lemmas.Str.{chars-nil, chars_past_char, encode_ascii, encodes-append}
use Rattle.unicode_visibility.specs.Characters.{is_among, is_shown}
use Rattle.command_line.specs.ShownWords.{IsShown, byte_shown, escaped_character, is_plain, shown_character, shown_from, word_shown}

-- a character of ASCII that prints
abbrev printable : ℕ → Bool
printable c = is_among 0x20 0x7e c

prints_ascii : (c : ℕ) → printable c ≡ true → c < 128
prints_ascii c h = grind (arith, nat_tests)

shown_first : (b : ℕ) (cs : List ℕ) → printable b ≡ true → list_all is_shown cs ≡ true
    → list_all is_shown (b ∷ cs) ≡ true
shown_first b cs p s = rw (p, s) refl

encodes_first : (b : ℕ) (cs bs : List ℕ) → printable b ≡ true → encode_utf8_all cs ≡ bs
    → encode_utf8_all (b ∷ cs) ≡ b ∷ bs
encodes_first b cs bs p e = rw (encode_ascii b (prints_ascii b p), e) refl

pub ascii_shown : (bs : List ℕ) → list_all printable bs ≡ true → IsShown bs
ascii_shown [] h = ([], refl, refl)
ascii_shown (b ∷ bs) h =
    let k = and_parts (printable b) (list_all printable bs) h in
    let more = ascii_shown bs k.1 in
    (b ∷ more.0, shown_first b more.0 k.0 more.1, encodes_first b more.0 bs k.0 more.2)

shown_more : (s t : List ℕ) → IsShown s → IsShown t → IsShown (s ++ t)
shown_more s t h k = (
  h.0 ++ k.0,
  rw (list_all-append is_shown h.0 k.0, h.1, k.1) refl,
  encodes-append h.0 k.0 ∙ ap (λ z. z ++ encode_utf8_all k.0) h.2 ∙ ap (λ z. s ++ z) k.2,
)

glyph_prints : (d : ℕ) → d < 16 → printable (digit_glyph false d) ≡ true
glyph_prints d h = grind (arith, nat_tests)

digits_print : (k n : ℕ) (acc : List ℕ) → list_all printable acc ≡ true
    → list_all printable (digits_onto k 16 false n acc) ≡ true
digits_print zero n acc h = h
digits_print (suc k) n acc h =
    let more : list_all printable (digit_glyph false (n % 16) ∷ acc) ≡ true =
    rw (glyph_prints (n % 16) (omega arith), h) refl in
    elim (cases_Bool (n / 16 == 0)) [
      | inl is ↦ rw is more
      | inr is ↦ rw is (digits_print k (n / 16) (digit_glyph false (n % 16) ∷ acc) more)
    ]

number_shown : (c : ℕ) → IsShown (codes "\\u{" ++ (digits 16 false c ++ codes "}"))
unfolding digits
number_shown c =
    shown_more (codes "\\u{") (digits_onto 64 16 false c [] ++ codes "}")
    (ascii_shown (codes "\\u{") refl)
    (shown_more (digits_onto 64 16 false c []) (codes "}")
    (ascii_shown _ (digits_print 64 c [] refl)) (ascii_shown (codes "}") refl))

escaped_shown : (c : ℕ) → IsShown (escaped_character c)
escaped_shown c = elim (cases_Bool (c == 0x09)) [
  | inl tab ↦ rw tab (ascii_shown (codes "\\t") refl)
  | inr tab ↦ elim (cases_Bool (c == 0x0a)) [
    | inl feed ↦ rw (tab, feed) (ascii_shown (codes "\\n") refl)
    | inr feed ↦ elim (cases_Bool (c == 0x0d)) [
      | inl back ↦ rw (tab, feed, back) (ascii_shown (codes "\\r") refl)
      | inr back ↦ elim (cases_Bool (c == 0x5c)) [
        | inl slash ↦ rw (tab, feed, back, slash) (ascii_shown (codes "\\\\") refl)
        | inr slash ↦ rw (tab, feed, back, slash) (number_shown c)
      ]
    ]
  ]
]

byte_is_shown : (b : ℕ) → IsShown (byte_shown b)
byte_is_shown b = ascii_shown (byte_shown b)
    (rw (glyph_prints (b / 16 % 16) (omega arith), glyph_prints (b % 16) (omega arith)) refl)

char_shown : (is_byte : Bool) (c : ℕ) → IsShown (shown_character is_byte c)
char_shown true c = byte_is_shown c
char_shown false c = elim (cases_Bool (c == 0)) [
  | inl none ↦ rw none ([], refl, refl)
  | inr none ↦ elim (cases_Bool (is_plain c)) [
    | inl plain ↦
        let k = and_parts (is_shown c) _ plain in
        rw (none, plain) (c ∷ [], rw k.0 refl, append-nil (encode_utf8 c))
    | inr plain ↦ rw (none, plain) (escaped_shown c)
  ]
]

pub chars_shown : (cs : List ℕ) (is_byte : Bool) → IsShown (shown_from is_byte cs)
chars_shown [] is_byte = ([], refl, refl)
chars_shown (c ∷ cs) is_byte =
    shown_more (shown_character is_byte c) _ (char_shown is_byte c) (chars_shown cs _)

-- ---- how a word is written

-- after its next character
pub shown_step : (b n : Bool) (c : ℕ) (w done s t : List ℕ) → IsUtf8 s → s ≡ encode_utf8 c ++ t
    → n ≡ ((c == 0) && not b) → w ≡ done ++ shown_from b (chars s)
    → w ≡ (done ++ shown_character b c) ++ shown_from n (chars t)
shown_step b n c w done s t u h m e =
    e ∙ ap (λ z. done ++ shown_from b z) (chars_past_char s t c u h)
    ∙ sym (append_assoc done (shown_character b c) (shown_from ((c == 0) && not b) (chars t)))
    ∙ ap (λ z. (done ++ shown_character b c) ++ shown_from z (chars t)) (sym m)

-- after its last one
pub shown_end : (b : Bool) (w done s : List ℕ) → length s ≡ 0
    → w ≡ done ++ shown_from b (chars s) → done ≡ w
shown_end b w done [] l e =
    sym (e ∙ ap (λ z. done ++ shown_from b z) chars-nil ∙ append-nil done)
shown_end b w done (x ∷ xs) l e = absurd (omega arith)

pub word_is_shown : (w : List ℕ) → IsShown (word_shown w)
word_is_shown w = chars_shown (chars w) false
