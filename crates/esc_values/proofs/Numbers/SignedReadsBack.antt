-- Signed numbers: the result of `parse`, as `signed_of`; their texts read back.
use Rattle.std.proofs.Common.{ℕ, suc, ◌-◌, ◌^◌, ◌≡◌, ◌≢◌, ◌<◌, Bool, true, false, ◌&&◌, nat_lt, nat_eq, List, [], ◌∷◌, length, get_or, Some, None}
use Rattle.std.proofs.Common.{Result, Ok, Err, ℤ, pos, negsuc, neg_ℤ, refl, ap, arith, lt-ltb, inl, inr}
use Rattle.std.specs.Fmt.{decimal, signed_decimal}
use Rattle.std.specs.Result.{result_ok}
use Rattle.std.specs.Str.{all_ascii_digits, IsUtf8, IsAscii}
use Rattle.std.specs.Str.Parse.{ParsesSigned, AllDigits, IsNumeral, without_leading_plus, without_leading_sign, starts_with_minus, signed_digits_value}
use Rattle.std.specs.Int.RustNames.{FitsSigned}
use Rattle.std.proofs.lemmas.Bool.{eqb-true, ne_eqb, cases_Bool, and_parts}
use Rattle.std.proofs.lemmas.Fmt.{decimal_is_IsNumeral, IsAscii-from_digits}
use Rattle.std.proofs.lemmas.Str.{IsUtf8-from_ascii}
use Rattle.std.proofs.lemmas.Str.Parse.{digit_at, without_leading_plus_none}
use Rattle.std.specs.Cmp.Derive.{both_true}
use borrow.Author.Tests.{ltb-true}
use mir.Syntax.{Width}
use mir.Syntax.Width.{w8, w16, w32, w64, w128}
use mir.Val.{bits, hbits}
use Rattle.esc_values.specs.Scalars.{IsSigned, is_signed, signed_of}
use Rattle.esc_values.proofs.Numbers.FactsIfSome.{Where}
use Rattle.esc_values.proofs.Numbers.ParseIsNumber.{own, ascii_cons, ascii_from_plus}

-- the test of the range, as a fact
is_signed_true : (k : ℕ) (z : ℤ) → is_signed k z ≡ true → IsSigned k z
is_signed_true k (pos n) h = ltb-true n (2 ^ (k - 1)) h
is_signed_true k (negsuc n) h = ltb-true n (2 ^ (k - 1)) h

is_signed_holds : (k : ℕ) (z : ℤ) → IsSigned k z → is_signed k z ≡ true
is_signed_holds k (pos n) h = lt-ltb n (2 ^ (k - 1)) h
is_signed_holds k (negsuc n) h = lt-ltb n (2 ^ (k - 1)) h

-- the range, in the words of the standard library
half_bits : (w : Width) → bits w - 1 ≡ hbits w
half_bits w8 = refl
half_bits w16 = refl
half_bits w32 = refl
half_bits w64 = refl
half_bits w128 = refl

pub fits_signed : (w : Width) (z : ℤ) → IsSigned (bits w) z → FitsSigned w z
fits_signed w (pos n) h = record { sfits = rw (half_bits w) at h }
fits_signed w (negsuc n) h = record { sfits = rw (half_bits w) at h }

pub signed_fits : (w : Width) (z : ℤ) → FitsSigned w z → IsSigned (bits w) z
signed_fits w (pos n) h = rw (half_bits w) h.sfits
signed_fits w (negsuc n) h = rw (half_bits w) h.sfits

-- the test of `signed_of`
abbrev signed_test : ℕ → List ℕ → Bool
signed_test k bs = nat_lt 0 (length (without_leading_sign bs))
    && all_ascii_digits (without_leading_sign bs) && is_signed k (signed_digits_value 10 bs)

numeral_from : (k : ℕ) (bs : List ℕ) → signed_test k bs ≡ true
    → IsNumeral 10 (without_leading_sign bs) × IsSigned k (signed_digits_value 10 bs)
numeral_from k bs h =
    let outer =
    and_parts (nat_lt 0 (length (without_leading_sign bs))
    && all_ascii_digits (without_leading_sign bs)) (is_signed k (signed_digits_value 10 bs))
    h in
    let inner = and_parts (nat_lt 0 (length (without_leading_sign bs)))
    (all_ascii_digits (without_leading_sign bs)) outer.0 in (
      (ltb-true _ _ inner.0, own.to (without_leading_sign bs) inner.1),
      is_signed_true k (signed_digits_value 10 bs) outer.1,
    )

test_from : (k : ℕ) (bs : List ℕ) → IsNumeral 10 (without_leading_sign bs)
    → IsSigned k (signed_digits_value 10 bs) → signed_test k bs ≡ true
test_from k bs f r =
    both_true (both_true (lt-ltb _ _ f.0) (own.from (without_leading_sign bs) f.1))
    (is_signed_holds k (signed_digits_value 10 bs) r)

pub signed_from_parse : {E : Type 0} (w : Width) (bs : List ℕ) (r : Result ℤ E)
    → ParsesSigned w 10 bs r → result_ok r ≡ signed_of (bits w) bs
signed_from_parse w bs (Ok x) h =
    rw (test_from (bits w) bs h.0.0 (signed_fits w (signed_digits_value 10 bs) h.0.1), h.1)
signed_from_parse w bs (Err e) h =
    elim (cases_Bool (signed_test (bits w) bs)) [
      | inl held ↦ let f = numeral_from (bits w) bs held in
          absurd (h (f.0, fits_signed w (signed_digits_value 10 bs) f.1))
      | inr failed ↦ rw failed
    ]

-- bytes that are no UTF-8 are no number
ascii_from_sign : (bs : List ℕ) → AllDigits 10 (without_leading_sign bs) → IsAscii bs
ascii_from_sign [] h = ascii_from_plus [] h
ascii_from_sign (x ∷ xs) h =
    elim (cases_Bool (nat_eq x 45)) [
      | inl minus ↦ let e : x ≡ 45 = eqb-true x 45 minus in
          ascii_cons x xs (omega arith) (IsAscii-from_digits xs (rw minus at h))
      | inr other ↦ ascii_from_plus (x ∷ xs) (rw other at h)
    ]

pub signed_none : (k : ℕ) (bs : List ℕ) → (IsUtf8 bs → ⊥) → signed_of k bs ≡ None
signed_none k bs h =
    elim (cases_Bool (signed_test k bs)) [
      | inl held ↦ absurd
          (h (IsUtf8-from_ascii bs (ascii_from_sign bs (numeral_from k bs held).0.1)))
      | inr failed ↦ rw failed
    ]

-- a number that was read lies in the range of the type
pub signed_where : (k : ℕ) (bs : List ℕ) → Where (λ z. IsSigned k z) (signed_of k bs)
signed_where k bs =
    elim (cases_Bool (signed_test k bs)) [
      | inl held ↦ let r = (numeral_from k bs held).1 in rw held r
      | inr failed ↦ rw failed tt
    ]

-- the text of a number reads back
unsigned_text : (ds : List ℕ) → get_or ds 0 0 ≢ 43 → get_or ds 0 0 ≢ 45
    → (starts_with_minus ds ≡ false) × (without_leading_plus ds ≡ ds)
unsigned_text ds plus minus =
    (ne_eqb (get_or ds 0 0) 45 minus, without_leading_plus_none ds plus)

back_pos : (k n : ℕ) → IsSigned k (pos n) → n < 2 ^ 63 → signed_of k (decimal n) ≡ Some (pos n)
back_pos k n small fits =
    let f = decimal_is_IsNumeral n (omega arith) in
    let range = digit_at (decimal n) 0 f.0.1 f.0.0 in
    let t = unsigned_text (decimal n) (λ e. omega (arith, range, e)) (λ e.
    omega (arith, range, e)) in
    let value : signed_digits_value 10 (decimal n) ≡ pos n = rw (t.0, t.1) (ap pos f.1) in
    let numeral : IsNumeral 10 (without_leading_sign (decimal n)) = rw (t.0, t.1) f.0 in
    rw (test_from k (decimal n) numeral (rw value small), value)

back_neg : (k n : ℕ) → IsSigned k (negsuc n) → n < 2 ^ 63
    → signed_of k (45 ∷ decimal (suc n)) ≡ Some (negsuc n)
back_neg k n small fits =
    let f = decimal_is_IsNumeral (suc n) (omega arith) in
    let value : signed_digits_value 10 (45 ∷ decimal (suc n)) ≡ negsuc n =
    ap (λ m. neg_ℤ (pos m)) f.1 in
    rw (test_from k (45 ∷ decimal (suc n)) f.0 (rw value small), value)

pub signed_back : (k : ℕ) (z : ℤ) → IsSigned k z → IsSigned 64 z
    → signed_of k (signed_decimal z) ≡ Some z
signed_back k (pos n) small fits = back_pos k n small fits
signed_back k (negsuc n) small fits = back_neg k n small fits

pub signed_back_32 : (z : ℤ) → IsSigned 32 z → signed_of 32 (signed_decimal z) ≡ Some z
signed_back_32 (pos n) h = back_pos 32 n h (omega arith)
signed_back_32 (negsuc n) h = back_neg 32 n h (omega arith)

pub signed_back_64 : (z : ℤ) → IsSigned 64 z → signed_of 64 (signed_decimal z) ≡ Some z
signed_back_64 z h = signed_back 64 z h h

-- a number of 32 bits has 64
pub signed_wide : (z : ℤ) → IsSigned 32 z → IsSigned 64 z
signed_wide (pos n) h = omega arith
signed_wide (negsuc n) h = omega arith
