-- Numbers are clear parts that read back.
use Rattle.std.proofs.Common.{ℕ, suc, ℤ, pos, negsuc, ◌+◌, ◌-◌, ◌^◌, ◌≡◌, ◌≢◌, ◌<◌, ◌≤◌, Bool, true, List, [], ◌∷◌, length, get_or, Some, refl, arith}
use Rattle.std.specs.Fmt.{decimal, signed_decimal}
use Rattle.std.specs.List.{list_all}
use Rattle.std.proofs.lemmas.Fmt.{decimal_is_IsNumeral}
use Rattle.std.proofs.lemmas.Str.Parse.{digit_at, without_leading_plus_none}
use Rattle.base64.specs.Tables.{all_below}
use Rattle.base64.proofs.Tables.{all_below_at}
use Rattle.esc_values.specs.Clear.{IsClearPart}
use Rattle.esc_values.specs.Scalars.{IsSigned, number_of}
use Rattle.esc_values.proofs.Clear.PlainPartsAreClear.{is_part_plain, plain_part}
use Rattle.esc_values.proofs.Numbers.ParseIsNumber.{test_from_numeral}

pub number_back : (k n : ℕ) → n < 2 ^ k → n < 2 ^ 64 → number_of k (decimal n) ≡ Some n
number_back k n small fits =
    let f = decimal_is_IsNumeral n fits in
    let range = digit_at (decimal n) 0 f.0.1 f.0.0 in
    let plain : get_or (decimal n) 0 0 ≢ 43 = λ e. omega (arith, range, e) in
    let test = test_from_numeral k (decimal n) (f.0, rw f.1 small) in
    rw (without_leading_plus_none (decimal n) plain, test, f.1)

-- digits pass a test that the ten digits pass
digit_passes : (f : ℕ → Bool) → all_below (λ i. f (i + 48)) 10 ≡ true → (c : ℕ) → 48 ≤ c → c ≤ 57
    → f c ≡ true
digit_passes f all c low high =
    let here = all_below_at (λ i. f (i + 48)) 10 (c - 48) all (omega arith) in
    let same : c - 48 + 48 ≡ c = omega arith in
    rw same at here

digits_from : (f : ℕ → Bool) → all_below (λ i. f (i + 48)) 10 ≡ true → (ds : List ℕ)
    → ((k : ℕ) → k < length ds → (48 ≤ get_or ds k 0) × (get_or ds k 0 ≤ 57)) → list_all f ds ≡ true
digits_from f all [] h = refl
digits_from f all (d ∷ ds) h =
    let here = h 0 (omega arith) in
    rw (
      digit_passes f all d here.0 here.1,
      digits_from f all ds (λ k below. h (suc k) (omega arith)),
    ) refl

pub decimal_passes : (f : ℕ → Bool) → all_below (λ i. f (i + 48)) 10 ≡ true → (n : ℕ) → n < 2 ^ 64
    → list_all f (decimal n) ≡ true
decimal_passes f all n fits =
    let g = decimal_is_IsNumeral n fits in
    digits_from f all (decimal n) (λ k below. let range = digit_at (decimal n) k g.0.1 below in
    (omega (arith, range), omega (arith, range)))

pub signed_passes : (f : ℕ → Bool) → all_below (λ i. f (i + 48)) 10 ≡ true → f 45 ≡ true → (z : ℤ)
    → IsSigned 64 z
    → list_all f (signed_decimal z) ≡ true
signed_passes f all minus (pos n) h = decimal_passes f all n (omega arith)
signed_passes f all minus (negsuc n) h = rw (minus, decimal_passes f all (suc n) (omega arith)) refl

pub decimal_part : (n : ℕ) → n < 2 ^ 64 → IsClearPart (decimal n)
decimal_part n fits = plain_part (decimal n) (decimal_passes is_part_plain refl n fits)

pub signed_part : (z : ℤ) → IsSigned 64 z → IsClearPart (signed_decimal z)
signed_part z h = plain_part (signed_decimal z) (signed_passes is_part_plain refl refl z h)
