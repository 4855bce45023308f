-- The keys of a semantic prompt and their values.
use Rattle.std.specs.Prelude.{ℕ, List, codes, Option, None}
use Rattle.std.specs.Option.{option_map}
use Rattle.esc_values.specs.Cuts.{Pairs, pairs_in, without_empty, last_value}

-- the values of the keys `aid`, `cl` and `k`, where they are there
pub record KeyValues : Type 0 where
  pub aid : Option (List ℕ)
  pub cl : Option (List ℕ)
  pub k : Option (List ℕ)

-- the values that come last
abbrev pub last_values : Pairs → KeyValues
last_values es = record {
  aid = last_value (codes "aid") None es;
  cl = last_value (codes "cl") None es;
  k = last_value (codes "k") None es;
}

-- the values of the keys in parts; an empty part is skipped; none where another part is no key and
-- value
abbrev pub keys_of : List (List ℕ) → Option KeyValues
keys_of ps = option_map last_values (pairs_in (without_empty ps))
