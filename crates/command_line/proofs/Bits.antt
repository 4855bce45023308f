-- The bits of words that are given, and the parts of a text.
use Rattle.std.proofs.Common.{arith, ℕ, ◌≡◌, ◌<◌, ◌^◌, ◌==◌, ◌||◌, Bool, true, false, List, [], ◌∷◌, Option, None, Some, length, nat_lt, refl, ap, ◌∙◌, inl, inr, bit_or}
use denote.Ref.{Bor}
use Rattle.std.specs.List.{after_first, before_first, fold, list_any, position_or_len}
use Rattle.std.proofs.lemmas.Bool.{cases_Bool}
use Rattle.std.proofs.lemmas.Bool.Decides.{nat_tests}
use Rattle.std.proofs.lemmas.List.Splits.{slice_split_first}
use Rattle.std.proofs.lemmas.Nat.Bits.{bit_at-lt, bit_at-pow_other, bit_at-pow_same, bit_at-zero, bit_at_or}
use Rattle.command_line.specs.Given.{bit, bits_of, has_bit, is_place, parts, place_in}

has_or : (i a b : ℕ) → has_bit i (bit_or a b) ≡ (has_bit i a || has_bit i b)
has_or i a b =
    let e = bit_at_or a b i in
    let l = bit_at-lt a i in
    let k = bit_at-lt b i in grind (arith, nat_tests)

has_none : (i : ℕ) → has_bit i 0 ≡ false
has_none i = let e = bit_at-zero i in grind (arith, nat_tests)

has_power : (i n : ℕ) → has_bit i (2 ^ n) ≡ (n == i)
has_power i n = elim (cases_Bool (n == i)) [
  | inl is ↦ let e = bit_at-pow_same i in grind (arith, nat_tests)
  | inr is ↦
      let e = bit_at-pow_other n i (λ same. grind (arith, nat_tests)) in grind (arith, nat_tests)
]

has_place : (i : ℕ) (o : Option ℕ) → i < 64 → has_bit i (bit o) ≡ is_place i o
has_place i None h = has_none i
has_place i (Some n) h = elim (cases_Bool (nat_lt n 64)) [
  | inl is ↦ rw is (has_power i n)
  | inr is ↦ rw is (has_none i ∙ grind (arith, nat_tests))
]

or_assoc : (a b c : Bool) → ((a || b) || c) ≡ (a || (b || c))
or_assoc true b c = refl
or_assoc false b c = refl

pub bits_after : (xs : List (Bor (List ℕ))) (ps : List (List ℕ)) (i n : ℕ) → i < 64
    → has_bit i (fold (λ m p. bit_or m (bit (place_in xs p))) n ps)
    ≡ (has_bit i n || list_any (λ p. is_place i (place_in xs p)) ps)
bits_after xs [] i n h = elim (cases_Bool (has_bit i n)) [
  | inl is ↦ rw is refl
  | inr is ↦ rw is refl
]
bits_after xs (p ∷ ps) i n h =
    bits_after xs ps i (bit_or n (bit (place_in xs p))) h
    ∙ ap (λ b. b || list_any (λ q. is_place i (place_in xs q)) ps)
    (has_or i n (bit (place_in xs p)) ∙ ap (λ b. has_bit i n || b) (has_place i (place_in xs p) h))
    ∙ or_assoc (has_bit i n) (is_place i (place_in xs p))
    (list_any (λ q. is_place i (place_in xs q)) ps)

pub bits_are : (xs : List (Bor (List ℕ))) (ps : List (List ℕ)) (i : ℕ) → i < 64
    → has_bit i (bits_of xs ps) ≡ list_any (λ p. is_place i (place_in xs p)) ps
bits_are xs ps i h =
    bits_after xs ps i 0 h
    ∙ ap (λ b. b || list_any (λ q. is_place i (place_in xs q)) ps) (has_none i)

-- ---- parts

-- a text without a comma is one part
pub one_part : (v : List ℕ) → position_or_len (λ b. b == 0x2c) v ≡ length v → parts v ≡ v ∷ []
one_part [] h = refl
one_part (b ∷ v) h = elim (cases_Bool (b == 0x2c)) [
  | inl is ↦ let z = rw is at h in absurd (omega arith)
  | inr is ↦
      let z = rw is at h in
      let rest : position_or_len (λ b. b == 0x2c) v ≡ length v = omega arith in
      rw (is, one_part v rest) refl
]

-- another is the text before the first, and the parts of the rest
pub more_parts : (v p m : List ℕ) → position_or_len (λ b. b == 0x2c) v < length v
    → p ≡ before_first (λ b. b == 0x2c) v → m ≡ after_first (λ b. b == 0x2c) v
    → parts v ≡ p ∷ parts m
more_parts v p m h e f = rw (e, f) (slice_split_first (λ b. b == 0x2c) v 0 h)
