-- Texts without noncharacters.
use Rattle.std.proofs.Common.{ℕ, ◌≡◌, ◌<◌, ◌+◌, ◌/◌, Bool, true, false, not, if◌then◌else◌, nat_lt, List, [], ◌∷◌, inl, inr, refl, sym, ap, ◌∙◌, chars, arith}
use lib.Utf8.{next}
use Rattle.std.specs.Char.{encode_utf8}
use Rattle.std.specs.List.{list_all}
use Rattle.std.specs.Str.{IsUtf8, encode_utf8_all}
use Rattle.std.proofs.lemmas.Bool.{and_parts, cases_Bool, true≢false}
use Rattle.std.proofs.lemmas.Bool.Decides.{nat_tests}
use Rattle.std.proofs.lemmas.List.Folds.{list_all-append}
use Rattle.std.proofs.lemmas.Str.{encodes-chars}
use Rattle.esc_html.specs.Characters.{is_character, is_low_byte, is_noncharacter, shown_as}

pub low_character : (c : ℕ) → c < 0xf000 → is_character c ≡ true
low_character c h = grind (arith, nat_tests)

-- its first byte says whether a character comes before U+F000
three_low : (c : ℕ) (x : List ℕ) → list_all is_low_byte ((224 + c / 4096) ∷ x) ≡ true → c < 0xf000
three_low c x h =
    let q = (and_parts (is_low_byte (224 + c / 4096)) (list_all is_low_byte x) h).0 in
    grind (arith, nat_tests)

four_not : (c : ℕ) (x : List ℕ) → list_all is_low_byte ((240 + c / 262144) ∷ x) ≡ true
    → c < 0xf000
four_not c x h =
    let q = (and_parts (is_low_byte (240 + c / 262144)) (list_all is_low_byte x) h).0 in
    grind (arith, nat_tests)

low_char : (c : ℕ) → list_all is_low_byte (encode_utf8 c) ≡ true → c < 0xf000
unfolding encode_utf8
low_char c h =
    elim (cases_Bool (nat_lt c 128)) [
      | inl one ↦ grind (arith, nat_tests)
      | inr more ↦ elim (cases_Bool (nat_lt c 2048)) [
        | inl two ↦ grind (arith, nat_tests)
        | inr longer ↦ elim (cases_Bool (nat_lt c 65536)) [
          | inl three ↦ three_low c (next (c / 64) ∷ next c ∷ []) (rw (more, longer, three) at h)
          | inr four ↦ four_not c (next (c / 4096) ∷ next (c / 64) ∷ next c ∷ [])
              (rw (more, longer, four) at h)
        ]
      ]
    ]

low_chars : (cs : List ℕ) → list_all is_low_byte (encode_utf8_all cs) ≡ true
    → list_all is_character cs ≡ true
low_chars [] h = refl
low_chars (c ∷ cs) h =
    let q = and_parts (list_all is_low_byte (encode_utf8 c))
    (list_all is_low_byte (encode_utf8_all cs))
    (sym (list_all-append is_low_byte (encode_utf8 c) (encode_utf8_all cs)) ∙ h) in
    rw (low_character c (low_char c q.0), low_chars cs q.1) refl

pub low_text : (t : List ℕ) → IsUtf8 t → list_all is_low_byte t ≡ true
    → list_all is_character (chars t) ≡ true
low_text t u h =
    low_chars (chars t) (ap (list_all is_low_byte) (encodes-chars t u) ∙ h)

-- a character that is none is shown as it is
pub stays : (c : ℕ) → is_character c ≡ true → shown_as c ≡ c
stays c h = by (is_noncharacter c) h
  where
    by : (b : Bool) → not b ≡ true → (if b then 0xfffd else c) ≡ c
    by true k = absurd (true≢false (sym k))
    by false k = refl
