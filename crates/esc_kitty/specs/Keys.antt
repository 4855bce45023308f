-- The keys of an image with their values.
use Rattle.std.specs.Prelude.{ℕ, ℤ, ◌==◌, if◌then◌else◌, List, map, Option, Some, None}
use Rattle.std.specs.List.{slice_split}
use Rattle.esc_values.specs.Cuts.{Pairs, pairs_in}
use Rattle.esc_values.specs.Fields.{Values, values_of}
use Rattle.esc_values.specs.Scalars.{and_then, number_of, signed_of}
use Rattle.esc_kitty.specs.declared.keys.Pair.{Pair}

-- the keys of a text and their values: between `,`, in UTF-8, and each with a `=`, whose first
-- one ends the key
abbrev pub keys_of : List ℕ → Option Pairs
keys_of t = pairs_in (slice_split (λ c. c == 0x2c) t)

-- the pairs as the program holds them, without where they lie in memory
abbrev pub pairs : List Pair → Pairs
pairs ps = map (λ (p : Pair). (p.key.now, p.value.now)) ps

abbrev pub values : List Pair → Values
values ps = values_of (pairs ps)

-- the number of 32 bits that a key has; one that cannot be read counts as absent
abbrev pub number : Values → List ℕ → Option ℕ
number v k = and_then (v k) (number_of 32)

abbrev pub signed_number : Values → List ℕ → Option ℤ
signed_number v k = and_then (v k) (signed_of 32)

-- the same, where 0 counts as absent too
abbrev pub not_zero : Option ℕ → Option ℕ
not_zero None = None
not_zero (Some n) = if n == 0 then None else Some n
