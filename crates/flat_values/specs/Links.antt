-- The fields of links.
use Rattle.std.specs.Prelude.{ℕ, List, [], ◌∷◌, Option, Some, None}
use Rattle.std.specs.List.{flat_map}
use Rattle.esc_links.specs.declared.hyperlink.Hyperlink.{Hyperlink}
use Rattle.flat_values.specs.Fields.{Field, flag_field, text_field}
use Rattle.flat_values.specs.declared.field_name.FieldName.TheVariants as name

-- a parameter of a link
abbrev pub parameter_fields : List ℕ × List ℕ → List Field
parameter_fields e = text_field name.Key e.0 ∷ text_field name.Value e.1 ∷ []

-- a link, or none
abbrev pub link_fields : {A : Type 0} → Option (Hyperlink A) → List Field
link_fields None = []
link_fields (Some h) = text_field name.Uri h.uri ∷ flag_field name.Implicit h.implicit
    ∷ flat_map parameter_fields h.params
