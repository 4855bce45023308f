-- Sizes in bytes, as words name them.
use Rattle.std.specs.Prelude.{ℕ, nat_lt, nat_eq, ◌*◌, ◌-◌, ◌^◌, ◌&&◌, Bool, if◌then◌else◌, List, [], ◌∷◌, length, take, codes, Option, Some, None}
use Rattle.std.specs.Char.{digit_value}
use Rattle.std.specs.List.{ends_with, list_all}
use Rattle.std.specs.Str.Parse.{digits_value, without_leading_plus}

-- the units with their factors, 2^10, 2^20 and 2^30, the longer names first
abbrev pub units : List (List ℕ × ℕ)
units =
    (codes "KiB", 0x400) ∷ (codes "MiB", 0x100000) ∷ (codes "GiB", 0x40000000)
    ∷ (codes "K", 0x400) ∷ (codes "M", 0x100000) ∷ (codes "G", 0x40000000) ∷ []

-- the text before this unit, if a text ends with it
abbrev pub text_before_unit : List ℕ → List ℕ → Option (List ℕ)
text_before_unit u t = if ends_with nat_eq t u then Some (take (length t - length u) t) else None

-- that with the unit's factor, or else the result so far
abbrev pub with_factor : Option (List ℕ) → ℕ → List ℕ × ℕ → List ℕ × ℕ
with_factor None f next = next
with_factor (Some t) f next = (t, f)

-- a text without the first of these units that it ends with, and the unit's factor
abbrev pub without_unit : List (List ℕ × ℕ) → List ℕ → List ℕ × ℕ
without_unit [] t = (t, 1)
without_unit (u ∷ us) t = with_factor (text_before_unit u.0 t) u.1 (without_unit us t)

-- one digit or more, and nothing else
abbrev pub is_numeral : List ℕ → Bool
is_numeral ds = nat_lt 0 (length ds) && list_all (λ c. nat_lt (digit_value c) 10) ds

-- the text before the unit, without a `+` in front of it
abbrev pub number_in : List ℕ → List ℕ
number_in t = without_leading_plus (without_unit units t).0

-- the size that a text names
abbrev pub size_value : List ℕ → ℕ
size_value t = digits_value 10 (number_in t) * (without_unit units t).1

-- whether it names one that fits a usize
abbrev pub is_size : List ℕ → Bool
is_size t = is_numeral (number_in t) && nat_lt (size_value t) (2 ^ 64)
