-- Selections are clear parts that read back, and a selection that was read has named bits.
use Rattle.std.proofs.Common.{◌≡◌, ◌≢◌, ℕ, ◌+◌, ◌*◌, ◌/◌, ◌%◌, ◌≤◌, ◌==◌, nat_eq, nat_lt, ◌&&◌, not, cond, Bool, true, false, inl, inr, List, [], ◌∷◌}
use Rattle.std.proofs.Common.{codes, ◌<◌, length, drop, get_or, bit_and, bit_or, Some, None, refl, sym, ap, ◌∙◌, arith}
use Rattle.std.specs.Cmp.Lexicographic.{pointwise, same_text}
use Rattle.std.specs.List.{flat_map, list_all}
use Rattle.std.specs.Str.{IsUtf8}
use Rattle.std.proofs.lemmas.List.{at_drop_more}
use Rattle.std.proofs.lemmas.Bool.{eqb-true, eqb-false, ltb-true, cases_Bool, and_parts}
use Rattle.std.proofs.lemmas.Nat.{le_or_r, or_lt, or_mod}
use Rattle.base64.specs.Tables.{all_below}
use Rattle.base64.proofs.Tables.{all_below_at}
use Rattle.esc_values.specs.Base64.{base64_text, base64_text_of}
use Rattle.esc_values.specs.Clear.{IsClearPart}
use Rattle.esc_values.proofs.Clear.PlainPartsAreClear.{is_part_plain, plain_part}
use Rattle.esc_values.proofs.Codecs.Base64ReadsBack.{base64_back}
use Rattle.esc_values.proofs.Numbers.FactsIfSome.{Where}
use Rattle.esc_osc_values.specs.Selections.{letters, letter_bit_in, letter_bit, letter_text, with_letters, selection_of, selection_text}
use Rattle.esc_osc_values.specs.WritableValues.{IsNamed}

-- a letter that is read as its bit, which is not 0, and that is a plain character
abbrev is_letter : ℕ × ℕ → Bool
is_letter l = (letter_bit l.1 == l.0) && (not (l.0 == 0) && is_part_plain l.1)

all_letters : list_all is_letter letters ≡ true
all_letters = refl

not_true : (t : Bool) → not t ≡ true → t ≡ false
not_true true h = cc
not_true false h = refl

-- the bits a, and those of b that have letters
abbrev bits_with : ℕ → List (ℕ × ℕ) → ℕ → ℕ
bits_with b [] a = a
bits_with b (l ∷ ls) a = bits_with b ls (cond (bit_and b l.0 == 0) a (bit_or a l.0))

letters_read : (b : ℕ) (ls : List (ℕ × ℕ)) (a : ℕ) → list_all is_letter ls ≡ true
    → with_letters a (flat_map (letter_text b) ls) ≡ Some (bits_with b ls a)
letters_read b [] a h = refl
letters_read b (l ∷ ls) a h =
    let q = and_parts (is_letter l) (list_all is_letter ls) h in
    let k = and_parts (letter_bit l.1 == l.0) (not (l.0 == 0) && is_part_plain l.1) q.0 in
    let s = and_parts (not (l.0 == 0)) (is_part_plain l.1) k.1 in
    let is : letter_bit l.1 ≡ l.0 = eqb-true (letter_bit l.1) l.0 k.0 in
    let some : (l.0 == 0) ≡ false = not_true (l.0 == 0) s.0 in
    elim (cases_Bool (bit_and b l.0 == 0)) [
      | inl held ↦ rw held (letters_read b ls a q.1)
      | inr failed ↦ rw (failed, is, some) (letters_read b ls (bit_or a l.0) q.1)
    ]

letters_plain : (b : ℕ) (ls : List (ℕ × ℕ)) → list_all is_letter ls ≡ true
    → list_all is_part_plain (flat_map (letter_text b) ls) ≡ true
letters_plain b [] h = refl
letters_plain b (l ∷ ls) h =
    let q = and_parts (is_letter l) (list_all is_letter ls) h in
    let k = and_parts (letter_bit l.1 == l.0) (not (l.0 == 0) && is_part_plain l.1) q.0 in
    let s = and_parts (not (l.0 == 0)) (is_part_plain l.1) k.1 in
    elim (cases_Bool (bit_and b l.0 == 0)) [
      | inl held ↦ rw held (letters_plain b ls q.1)
      | inr failed ↦ rw (failed, s.1) (letters_plain b ls q.1)
    ]

-- the letters have every named bit
abbrev keeps_bits : ℕ → Bool
keeps_bits n = bits_with (2 * n) letters 0 == 2 * n

bits_kept : all_below keeps_bits 8192 ≡ true
bits_kept = refl

bits_are : (b : ℕ) → b % 2 ≡ 0 → b ≤ 16382 → bits_with b letters 0 ≡ b
bits_are b even most =
    let at = all_below_at keeps_bits 8192 (b / 2) bits_kept (omega arith) in
    let is : 2 * (b / 2) ≡ b = omega arith in
    eqb-true (bits_with b letters 0) b (rw is at at)

-- the empty text is not that of a set with a bit
some_letters : (t : List ℕ) (b : ℕ) → 0 < b → with_letters 0 t ≡ Some b → selection_of t ≡ Some b
some_letters [] b some e = let none : 0 ≡ b = cc in absurd (omega arith)
some_letters (c ∷ cs) b some e = e

pub selection_back : (b : ℕ) → IsNamed b → selection_of (selection_text b) ≡ Some b
selection_back b h =
    some_letters (selection_text b) b h.1 (letters_read b letters 0 all_letters
    ∙ ap Some (bits_are b h.0 h.2))

pub selection_part : (b : ℕ) → IsNamed b → IsClearPart (selection_text b)
selection_part b h = plain_part (selection_text b) (letters_plain b letters all_letters)

-- no base64 text is `?`
no_query : base64_text_of (codes "?") ≡ None
no_query = refl

pub base64_other : (t : List ℕ) → IsUtf8 t → pointwise nat_eq (base64_text t) (codes "?") ≡ false
base64_other t h =
    elim (cases_Bool (pointwise nat_eq (base64_text t) (codes "?"))) [
      | inl held ↦
          let none : Some t ≡ None = sym (base64_back t h)
          ∙ ap base64_text_of (same_text (base64_text t) (codes "?") (sym held)) ∙ no_query in
          absurd cc
      | inr failed ↦ failed
    ]

-- the bit of the letter at a place, and a letter that is passed over
pub bit_here : (ls : List (ℕ × ℕ)) (c i : ℕ) (d : ℕ × ℕ) → i < length ls
    → (c == (get_or ls i d).1) ≡ true → letter_bit_in (drop i ls) c ≡ (get_or ls i d).0
bit_here ls c i d lt same = at_drop_more (λ ks. letter_bit_in ks c) ls i d lt ∙ rw same refl

pub bit_later : (ls : List (ℕ × ℕ)) (c i : ℕ) (d : ℕ × ℕ) → i < length ls
    → (c == (get_or ls i d).1) ≡ false
    → letter_bit_in (drop (i + 1) ls) c ≡ letter_bit_in (drop i ls) c
bit_later ls c i d lt differs =
    sym (at_drop_more (λ ks. letter_bit_in ks c) ls i d lt ∙ rw differs refl)

-- a named bit, or none
abbrev is_bit : ℕ → Bool
is_bit n = (n % 2 == 0) && nat_lt n 16384

all_bits : list_all (λ (l : ℕ × ℕ). is_bit l.0) letters ≡ true
all_bits = refl

letter_is_bit : (c : ℕ) (ls : List (ℕ × ℕ)) → list_all (λ (l : ℕ × ℕ). is_bit l.0) ls ≡ true
    → is_bit (letter_bit_in ls c) ≡ true
letter_is_bit c [] h = refl
letter_is_bit c (l ∷ ls) h =
    let q = and_parts (is_bit l.0) (list_all (λ (k : ℕ × ℕ). is_bit k.0) ls) h in
    elim (cases_Bool (c == l.1)) [
      | inl held ↦ rw held q.0
      | inr failed ↦ rw failed (letter_is_bit c ls q.1)
    ]

-- named bits with one more
one_bit : (b n : ℕ) → b % 2 ≡ 0 → b < 16384 → n % 2 ≡ 0 → n < 16384 → (n == 0) ≡ false
    → IsNamed (bit_or b n)
one_bit b n even most also low other =
    let some : n ≢ 0 = eqb-false n 0 other in
    let least : n ≤ bit_or b n = le_or_r b n in
    let below : bit_or b n < 16384 = or_lt 14 b n most low in
    let both : bit_or b n % 2 ≡ 0 = or_mod b n 1 ∙ ap (λ k. bit_or k (n % 2)) even ∙ also in
    (both, omega arith, omega arith)

one_letter : (b c : ℕ) → b % 2 ≡ 0 → b ≤ 16382 → (letter_bit c == 0) ≡ false
    → IsNamed (bit_or b (letter_bit c))
one_letter b c even most other =
    let q = and_parts (letter_bit c % 2 == 0) (nat_lt (letter_bit c) 16384)
    (letter_is_bit c letters all_bits) in
    one_bit b (letter_bit c) even (omega arith) (eqb-true (letter_bit c % 2) 0 q.0)
    (ltb-true (letter_bit c) 16384 q.1) other

more_letters : (b : ℕ) (cs : List ℕ) → IsNamed b → Where IsNamed (with_letters b cs)
more_letters b [] h = h
more_letters b (c ∷ cs) h =
    elim (cases_Bool (letter_bit c == 0)) [
      | inl held ↦ rw held tt
      | inr failed ↦ rw failed
          (more_letters (bit_or b (letter_bit c)) cs (one_letter b c h.0 h.2 failed))
    ]

pub selection_named : (t : List ℕ) → Where IsNamed (selection_of t)
selection_named [] = (refl, omega arith, omega arith)
selection_named (c ∷ cs) =
    elim (cases_Bool (letter_bit c == 0)) [
      | inl held ↦ rw held tt
      | inr failed ↦ rw failed
          (more_letters (bit_or 0 (letter_bit c)) cs (one_letter 0 c refl (omega arith) failed))
    ]
