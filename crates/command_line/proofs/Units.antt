-- Sizes and their units.
use Rattle.std.proofs.Common.{arith, ℕ, zero, suc, SomeIff, ◌≡◌, ◌<◌, ◌*◌, ◌-◌, ◌^◌, Bool, true, false, List, [], ◌∷◌, Option, None, Some, Bor, length, take, nat_eq, nat_lt, refl, sym, subst, ◌∙◌, if◌then◌else◌, inl, inr}
use Rattle.std.specs.List.{ends_with, list_all}
use Rattle.std.specs.Option.{MatchOption, option_map}
use Rattle.std.specs.Char.{digit_value}
use Rattle.std.specs.Str.{IsCharBoundary}
use Rattle.std.specs.Str.Parse.{AllDigits, IsNumeral, digits_value, without_leading_plus}
use Rattle.std.specs.Str.Pattern.{FindsTextSuffix, StripsSuffix}
use Rattle.std.proofs.lemmas.Bool.{and_parts, cases_Bool}
use Rattle.std.proofs.lemmas.Bool.Decides.{nat_tests}
use Rattle.std.proofs.lemmas.Str.Pattern.{ends_text}
use Rattle.command_line.specs.Sizes.{text_before_unit, is_numeral, is_size, number_in, size_value, units, with_factor, without_unit}

-- the rest of a text before another, if it ends with it
pub cut_is : (n s : List ℕ) (r : Option (Bor (List ℕ)))
    → MatchOption r (FindsTextSuffix n s None) (λ x. StripsSuffix (FindsTextSuffix n) s x.now)
    → option_map (λ x. x.now) r
    ≡ (if ends_with nat_eq s n then Some (take (length s - length n) s) else None)
cut_is n s None h = rw (sym (ends_text false n s h)) refl
cut_is n s (Some x) h =
    let m = h.1 in
    let fits = h.3 in
    let ends : true ≡ ends_with nat_eq s n =
    ends_text true n s (
      h.0,
      m,
      omega arith,
      subst (λ z. IsCharBoundary s (length s - z)) (sym m.0) m.2,
    ) in
    rw (sym ends, h.2, m.0) refl

-- ---- numerals, by a test

abbrev is_digit : ℕ → Bool
is_digit c = nat_lt (digit_value c) 10

digits_are : (ds : List ℕ) → AllDigits 10 ds → list_all is_digit ds ≡ true
digits_are [] h = refl
digits_are (d ∷ ds) h =
    let first : is_digit d ≡ true = grind (arith, nat_tests, h.0) in
    rw (first, digits_are ds h.1) refl

digits_of : (ds : List ℕ) → list_all is_digit ds ≡ true → AllDigits 10 ds
digits_of [] h = tt
digits_of (d ∷ ds) h =
    let k = and_parts (is_digit d) (list_all is_digit ds) h in
    (grind (arith, nat_tests, k.0), digits_of ds k.1)

numeral_is : (ds : List ℕ) → IsNumeral 10 ds → is_numeral ds ≡ true
numeral_is ds h = rw (digits_are ds h.1) (grind (arith, nat_tests))

is_numeral_of : (ds : List ℕ) → is_numeral ds ≡ true → IsNumeral 10 ds
is_numeral_of ds h =
    let k = and_parts (nat_lt 0 (length ds)) (list_all is_digit ds) h in
    (grind (arith, nat_tests, k.0), digits_of ds k.1)

-- ---- the size that a number and its unit make

below_product : (k f m : ℕ) → 0 < f → k * f < m → k < m
below_product k zero m h l = absurd (omega arith)
below_product k (suc f) m h l = omega (arith, l)

pub sized : (t n : List ℕ) (f k : ℕ) (r : Option ℕ) → (n, f) ≡ without_unit units t
    → IsNumeral 10 (without_leading_plus n) → digits_value 10 (without_leading_plus n) ≡ k
    → SomeIff r (k * f < 2 ^ 64) (k * f)
    → MatchOption r (is_size t ≡ false) (λ x. (is_size t ≡ true) × (x ≡ size_value t))
sized t n f k None e i v m =
    let value : size_value t ≡ k * f = rw (sym e, v) refl in
    rw (sym e, numeral_is (without_leading_plus n) i) (grind (arith, nat_tests))
sized t n f k (Some x) e i v m =
    let value : size_value t ≡ k * f = rw (sym e, v) refl in (
      rw (sym e, numeral_is (without_leading_plus n) i) (grind (arith, nat_tests)),
      m.1 ∙ sym value,
    )

factor_is_some : (o : Option (List ℕ)) (f : ℕ) (next : List ℕ × ℕ) → 0 < f → 0 < next.1
    → 0 < (with_factor o f next).1
factor_is_some None f next h k = k
factor_is_some (Some t) f next h k = h

factors_are_some : (us : List (List ℕ × ℕ)) (t : List ℕ) → list_all (λ u. nat_lt 0 u.1) us ≡ true
    → 0 < (without_unit us t).1
factors_are_some [] t h = omega arith
factors_are_some (u ∷ us) t h =
    let k = and_parts (nat_lt 0 u.1) (list_all (λ u. nat_lt 0 u.1) us) h in
    factor_is_some (text_before_unit u.0 t) u.1 (without_unit us t) (grind (arith, nat_tests, k.0))
    (factors_are_some us t k.1)

pub unsized : (t n : List ℕ) (f : ℕ) → (n, f) ≡ without_unit units t
    → (IsNumeral 10 (without_leading_plus n)
    × (digits_value 10 (without_leading_plus n) < 2 ^ 64) → ⊥)
    → is_size t ≡ false
unsized t n f e h = elim (cases_Bool (is_size t)) [
  | inl is ↦
      let k = and_parts (is_numeral (number_in t)) (nat_lt (size_value t) (2 ^ 64)) is in
      let fits : size_value t < 2 ^ 64 = grind (arith, nat_tests, k.1) in
      let num : is_numeral (without_leading_plus n) ≡ true = rw (sym e) at k.0 in
      let less : digits_value 10 (without_leading_plus n) * f < 2 ^ 64 = rw (sym e) at fits in
      let some : 0 < f = subst (λ x. 0 < x.1) (sym e) (factors_are_some units t refl) in
      absurd (h (
        is_numeral_of (without_leading_plus n) num,
        below_product (digits_value 10 (without_leading_plus n)) f (2 ^ 64) some less,
      ))
  | inr is ↦ is
]
