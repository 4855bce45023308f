-- How much of a string is kept at most.
use Rattle.std.specs.Prelude.{ℕ, ◌≡◌, ◌-◌, ◌^◌, Bool, true, false, not, nat_le, min, if◌then◌else◌, ◌&&◌, List, length, Option, Some, None}
use Rattle.std.specs.List.{filter}
use Rattle.esc_values.specs.Clear.{parts_of}
use Rattle.esc_frame.specs.declared.unfinished.count.Count.{Count}
use Rattle.esc_frame.specs.Bodies.{is_dcs_parameter, is_dcs_header}

-- a count is within the limit, where there is one
abbrev pub is_within : Option ℕ → ℕ → Bool
is_within None n = true
is_within (Some limit) n = nat_le n limit

-- the greatest count that a `usize` holds, which a greater one is returned as
abbrev pub most : ℕ
most = 2 ^ 64 - 1

-- a count that is kept: none past the limit
abbrev pub kept_within : Option ℕ → ℕ → ℕ
kept_within limit n = if is_within limit n then n else 0

-- The bytes counted are n; or it is past the limit.
pub record Counts (limit : Option ℕ) (c : Count) (n : ℕ) : Type 0 where
  pub over : c.is_over ≡ not (is_within limit n)
  pub count : c.is_over ≡ false → c.bytes ≡ min n most
  pub none : c.is_over ≡ true → c.bytes ≡ 0

-- the count of a DCS's header without its noise: of its bytes 30-39 and 3B
abbrev pub header_count : List ℕ → ℕ
header_count x = length (filter is_dcs_parameter x)

-- a header that is hooked: within the limit, and of its form
abbrev pub is_read : Option ℕ → List ℕ → Bool
is_read limit x = is_within limit (header_count x) && is_dcs_header x

-- so few parts that no memory is wanted for the list of them
abbrev pub has_few_parts : List ℕ → Bool
has_few_parts t = nat_le (length (parts_of t)) 16
