-- The output for the termcap query of data.
use Rattle.std.specs.Prelude.{ℕ, ◌≡◌, List, length}
use Rattle.flat_values.specs.Fields.{Table, table_of}
use Rattle.flat_values.specs.Queries.{query_fields}
use Rattle.xtgettcap.specs.Names.{names_of}
use Rattle.esc_calls.specs.declared.query_value.QueryValue.{QueryValue}

-- the rows of the names that the data asks for, and these names one after another
abbrev pub query_table : List ℕ → Table
query_table t = table_of (query_fields (names_of t))

-- the value is that of the data: the number of names that it asks for, and the number of bytes of
-- these
pub record IsQuery (t : List ℕ) (v : QueryValue) : Type 0 where
  pub count : v.name_count ≡ length (query_table t).0
  pub length : v.text_length ≡ length (query_table t).1
