-- Tenths are clear parts that read back.
use Rattle.std.proofs.Common.{ℕ, ◌≡◌, ◌<◌, ◌+◌, ◌-◌, ◌*◌, ◌^◌, ◌/◌, ◌%◌, ◌≤◌, nat_lt, inl, inr, List, [], ◌∷◌, Option, Some, None, refl, arith, lt-ltb}
use Rattle.std.specs.Fmt.{decimal}
use Rattle.std.proofs.lemmas.Bool.{le-leb, ltb-true, cases_Bool}
use Rattle.std.proofs.lemmas.Fmt.{decimal_is_IsNumeral, decimal_digit}
use Rattle.std.proofs.lemmas.Str.Parse.{digit_at}
use Rattle.esc_values.specs.Clear.{IsClearPart}
use Rattle.esc_values.specs.Cuts.{cut_at}
use Rattle.esc_values.specs.Scalars.{and_then, some_if, number_in}
use Rattle.esc_values.proofs.Clear.ClearTexts.{part_append}
use Rattle.esc_values.proofs.Clear.CutAtCharacter.{Free, free_from, cut_there}
use Rattle.esc_values.proofs.Clear.NumbersAreClear.{decimal_part}
use Rattle.esc_values.proofs.Clear.PlainPartsAreClear.{plain_part}
use Rattle.esc_values.proofs.Numbers.FactsIfSome.{Where, where_then, Anything, anything}
use Rattle.esc_values.proofs.Numbers.ParseIsNumber.{test_from_numeral}
use Rattle.esc_iterm.specs.Tenths.{tenth_of, tenths_in, tenths_from, tenths_of, tenths_text}

-- a number has no character below the digits
pub decimal_lacks : (c n : ℕ) → c < 48 → n < 2 ^ 64 → Free c (decimal n)
decimal_lacks c n low fits =
    let f = decimal_is_IsNumeral n fits in
    free_from c (decimal n) (λ k below e. let range = digit_at (decimal n) k f.0.1 below in
    omega (arith, range, e, low))

whole_back : (n : ℕ) → n < 2 ^ 32 → number_in 32 (decimal n) ≡ Some n
whole_back n small =
    let f = decimal_is_IsNumeral n (omega arith) in
    rw (test_from_numeral 32 (decimal n) (f.0, rw f.1 small), f.1) refl

-- one digit
digit_back : (b d : ℕ) → b ≡ 48 + d → d < 10 → tenth_of (b ∷ []) ≡ Some d
digit_back b d e small =
    let low : 48 ≤ b = omega (arith, e) in
    let high : b ≤ 57 = omega (arith, e) in
    let same : b - 48 ≡ d = omega (arith, e) in
    rw (le-leb 48 b low, le-leb b 57 high, same) refl

tenth_back : (d : ℕ) → d < 10 → tenth_of (decimal d) ≡ Some d
tenth_back d small = rw (decimal_digit d small) (digit_back (48 + d) d refl small)

pub tenths_back : (n : ℕ) → n < 2 ^ 32 → tenths_of (tenths_text n) ≡ Some n
tenths_back n small =
    let cut = cut_there 0x2e (decimal (n / 10)) (decimal (n % 10))
    (decimal_lacks 0x2e (n / 10) (omega arith) (omega arith)) in
    let same : 10 * (n / 10) + n % 10 ≡ n = omega arith in
    rw (
      cut,
      whole_back (n / 10) (omega arith),
      tenth_back (n % 10) (omega arith),
      same,
      lt-ltb n (2 ^ 32) small,
    ) refl

pub tenths_part : (n : ℕ) → n < 2 ^ 32 → IsClearPart (tenths_text n)
tenths_part n small =
    part_append (decimal (n / 10)) (0x2e ∷ decimal (n % 10)) (decimal_part (n / 10) (omega arith))
    (part_append (0x2e ∷ []) (decimal (n % 10)) (plain_part (0x2e ∷ []) refl)
    (decimal_part (n % 10) (omega arith)))

-- says that a number that was read has 32 bits
abbrev pub IsSmall : ℕ → Type 0
IsSmall n = n < 2 ^ 32

when_small : (n : ℕ) → Where (λ m. IsSmall m) (some_if (nat_lt n (2 ^ 32)) n)
when_small n =
    elim (cases_Bool (nat_lt n (2 ^ 32))) [
      | inl held ↦ let small = ltb-true n (2 ^ 32) held in rw held small
      | inr failed ↦ rw failed tt
    ]

in_where : (whole tenth : List ℕ) → Where (λ m. IsSmall m) (tenths_in whole tenth)
in_where whole tenth =
    where_then (λ (n : ℕ). Anything n) (λ m. IsSmall m) (λ n.
    and_then (tenth_of tenth) (λ d. some_if (nat_lt (10 * n + d) (2 ^ 32)) (10 * n + d)))
    (λ n h. where_then (λ (d : ℕ). Anything d) (λ m. IsSmall m) (λ d.
    some_if (nat_lt (10 * n + d) (2 ^ 32)) (10 * n + d))
    (λ d k. when_small (10 * n + d)) (tenth_of tenth) (anything (tenth_of tenth)))
    (number_in 32 whole) (anything (number_in 32 whole))

from_where : (t : List ℕ) (o : Option (List ℕ × List ℕ)) → Where (λ m. IsSmall m) (tenths_from t o)
from_where t None = in_where t []
from_where t (Some c) = in_where c.0 c.1

pub tenths_where : (t : List ℕ) → Where (λ m. IsSmall m) (tenths_of t)
tenths_where t = from_where t (cut_at 0x2e t)
