-- Numbers that count from one.
use Rattle.std.specs.Prelude.{ℕ, ◌+◌, ◌-◌, ◌==◌, nat_le, if◌then◌else◌, Option, Some, None}
use Rattle.esc_values.specs.Scalars.{some_if}
use Rattle.typed_functions.specs.declared.one_based.Ordinal.{Ordinal}

-- the number
abbrev pub one_based : Ordinal → ℕ
one_based o = o.zero_based + 1

abbrev pub at_place : ℕ → Ordinal
at_place z = record { zero_based = z }

-- that of a parameter: nothing and 0 are 1
abbrev pub one_based_of : Option ℕ → Option Ordinal
one_based_of None = Some (at_place 0)
one_based_of (Some n) = if n == 0 then Some (at_place 0)
    else some_if (nat_le (n - 1) 0xffff_ffff) (at_place (n - 1))
