-- The names of a termcap query that rows say.
use Rattle.std.specs.Prelude.{ℕ, ◌≡◌, List, map}
use Rattle.flat_values.specs.Fields.{Table, table_of}
use Rattle.flat_values.specs.Found.{NamedValue, Reading, string_of}
use Rattle.flat_values.specs.Queries.{query_fields}

-- the names that rows say, a text each
abbrev pub names_in : Reading → List NamedValue → List (List ℕ)
names_in r ss = map (λ s. string_of r s.1) ss

-- rows and the texts of their fields are those of names
abbrev pub HasNames : Table → List (List ℕ) → Type 0
HasNames t ns = table_of (query_fields ns) ≡ t
