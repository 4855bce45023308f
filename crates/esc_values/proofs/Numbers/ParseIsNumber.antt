-- The result of `parse`, as `number_of`.
use Rattle.std.proofs.Common.{◌≡◌, ℕ, zero, suc, ◌^◌, ◌<◌, true, ◌&&◌, nat_lt, nat_eq, List, [], ◌∷◌, length, None, Result, Ok, Err}
use Rattle.std.proofs.Common.{arith, lt-ltb, inl, inr}
use Rattle.std.specs.Result.{result_ok}
use Rattle.std.specs.Str.{all_ascii_digits, IsUtf8, IsAscii}
use Rattle.std.specs.Str.Parse.{ParsesUnsigned, AllDigits, IsNumeral, digits_value, without_leading_plus}
use Rattle.std.proofs.lemmas.Str.{IsUtf8-from_ascii}
use Rattle.std.proofs.lemmas.Str.Parse.{IsNumeralModel, numerals_by_value, tells_all_ascii_digits}
use Rattle.std.proofs.lemmas.Fmt.{IsAscii-from_digits}
use borrow.Author.Tests.{ltb-true}
use Rattle.std.proofs.lemmas.Bool.{eqb-true, and_parts, cases_Bool}
use Rattle.std.specs.Cmp.Derive.{both_true}
use Rattle.esc_values.specs.Scalars.{number_of}

pub own : IsNumeralModel (λ ds. all_ascii_digits ds ≡ true) (digits_value 10)
own = numerals_by_value (λ ds. all_ascii_digits ds ≡ true) tells_all_ascii_digits

-- the test of `number_in`, as a fact
pub numeral_from_test : (k : ℕ) (ds : List ℕ)
    → (nat_lt 0 (length ds) && all_ascii_digits ds && nat_lt (digits_value 10 ds) (2 ^ k)) ≡ true
    → IsNumeral 10 ds × (digits_value 10 ds < 2 ^ k)
numeral_from_test k ds h =
    let outer = and_parts (nat_lt 0 (length ds) && all_ascii_digits ds)
    (nat_lt (digits_value 10 ds) (2 ^ k)) h in
    let inner = and_parts (nat_lt 0 (length ds)) (all_ascii_digits ds) outer.0 in
    ((ltb-true _ _ inner.0, own.to ds inner.1), ltb-true _ _ outer.1)

pub test_from_numeral : (k : ℕ) (ds : List ℕ) → IsNumeral 10 ds × (digits_value 10 ds < 2 ^ k)
    → (nat_lt 0 (length ds) && all_ascii_digits ds && nat_lt (digits_value 10 ds) (2 ^ k)) ≡ true
test_from_numeral k ds h =
    both_true (both_true (lt-ltb _ _ h.0.0) (own.from ds h.0.1)) (lt-ltb _ _ h.1)

pub number_from_parse : {E : Type 0} (k : ℕ) (bs : List ℕ) (r : Result ℕ E)
    → ParsesUnsigned k 10 bs r → result_ok r ≡ number_of k bs
number_from_parse k bs (Ok x) h = rw (test_from_numeral k (without_leading_plus bs) h.0, h.1)
number_from_parse k bs (Err e) h =
    elim (cases_Bool (nat_lt 0 (length (without_leading_plus bs))
    && all_ascii_digits (without_leading_plus bs)
    && nat_lt (digits_value 10 (without_leading_plus bs)) (2 ^ k))) [
      | inl held ↦ absurd (h (numeral_from_test k (without_leading_plus bs) held))
      | inr failed ↦ rw failed
    ]

-- bytes that are no UTF-8 are no number
pub ascii_cons : (x : ℕ) (xs : List ℕ) → x < 128 → IsAscii xs → IsAscii (x ∷ xs)
ascii_cons x xs small rest zero = small
ascii_cons x xs small rest (suc i) = rest i

pub ascii_from_plus : (bs : List ℕ) → AllDigits 10 (without_leading_plus bs) → IsAscii bs
ascii_from_plus [] h = λ i. omega arith
ascii_from_plus (x ∷ xs) h =
    elim (cases_Bool (nat_eq x 43)) [
      | inl plus ↦ let e : x ≡ 43 = eqb-true x 43 plus in
          ascii_cons x xs (omega arith) (IsAscii-from_digits xs (rw plus at h))
      | inr other ↦ IsAscii-from_digits (x ∷ xs) (rw other at h)
    ]

pub number_none : (k : ℕ) (bs : List ℕ) → (IsUtf8 bs → ⊥) → number_of k bs ≡ None
number_none k bs h =
    elim (cases_Bool (nat_lt 0 (length (without_leading_plus bs))
    && all_ascii_digits (without_leading_plus bs)
    && nat_lt (digits_value 10 (without_leading_plus bs)) (2 ^ k))) [
      | inl held ↦ absurd
          (h (IsUtf8-from_ascii bs
          (ascii_from_plus bs (numeral_from_test k (without_leading_plus bs) held).0.1)))
      | inr failed ↦ rw failed
    ]
