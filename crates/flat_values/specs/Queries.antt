-- The fields of termcap queries.
use Rattle.std.specs.Prelude.{ℕ, List, [], ◌∷◌}
use Rattle.std.specs.List.{flat_map}
use Rattle.flat_values.specs.Fields.{Field, text_field}
use Rattle.flat_values.specs.declared.field_name.FieldName.TheVariants as name

-- the name of a capability
abbrev pub capability_fields : List ℕ → List Field
capability_fields n = text_field name.Name n ∷ []

-- the names that a query asks for. They are the whole of it, as the law `queries_are_whole` says
abbrev pub query_fields : List (List ℕ) → List Field
query_fields ns = flat_map capability_fields ns
