-- Tenths: numbers with one digit after the point, counted in tenths.
use Rattle.std.specs.Prelude.{ℕ, ◌+◌, ◌-◌, ◌*◌, ◌^◌, ◌/◌, ◌%◌, nat_lt, List, [], ◌∷◌, ◌++◌, Option, Some, None}
use Rattle.std.specs.Fmt.{decimal}
use Rattle.esc_values.specs.Cuts.{cut_at}
use Rattle.esc_values.specs.Params.{is_digit}
use Rattle.esc_values.specs.Scalars.{and_then, some_if, number_in}

-- at most one digit after the point; none is 0
abbrev pub tenth_of : List ℕ → Option ℕ
tenth_of [] = Some 0
tenth_of (d ∷ []) = some_if (is_digit d) (d - 0x30)
tenth_of (d ∷ e ∷ ds) = None

-- the tenths of the digits before the point and after it, if they have 32 bits
abbrev pub tenths_in : List ℕ → List ℕ → Option ℕ
tenths_in whole tenth = and_then (number_in 32 whole) (λ n.
    and_then (tenth_of tenth) (λ d. some_if (nat_lt (10 * n + d) (2 ^ 32)) (10 * n + d)))

abbrev pub tenths_from : List ℕ → Option (List ℕ × List ℕ) → Option ℕ
tenths_from t None = tenths_in t []
tenths_from t (Some c) = tenths_in c.0 c.1

-- the tenths that a text writes: at least one digit, then optionally a point and at most one digit
abbrev pub tenths_of : List ℕ → Option ℕ
tenths_of t = tenths_from t (cut_at 0x2e t)

-- tenths, with one digit after the point
abbrev pub tenths_text : ℕ → List ℕ
tenths_text n = decimal (n / 10) ++ 0x2e ∷ decimal (n % 10)
