-- The fields of iTerm2's commands.
use Rattle.std.specs.Prelude.{ℕ, List, [], ◌∷◌, ◌++◌, Option, Some, None}
use Rattle.esc_iterm.specs.declared.dimension.ITermDimension.{ITermDimension}
use Rattle.esc_iterm.specs.declared.dimension.ITermDimension.TheVariants.{Automatic, Cells, Percent, Pixels}
use Rattle.esc_iterm.specs.declared.file_data.ITermFileData.{ITermFileData}
use Rattle.esc_iterm.specs.declared.proprietary.ITermProprietary.{ITermProprietary}
use Rattle.esc_iterm.specs.declared.proprietary.ITermProprietary.TheVariants as iterm
use Rattle.esc_iterm.specs.declared.unicode_version.ITermUnicodeVersionOp.{ITermUnicodeVersionOp}
use Rattle.esc_iterm.specs.declared.unicode_version.ITermUnicodeVersionOp.TheVariants as version
use Rattle.flat_values.specs.Fields.{Field, flag_field, number_field, signed_field, size_field, text_field}
use Rattle.flat_values.specs.declared.field_name.FieldName.{FieldName}
use Rattle.flat_values.specs.declared.field_name.FieldName.TheVariants as name

-- a text of this name, where there is one
abbrev pub text_fields : FieldName → Option (List ℕ) → List Field
text_fields n None = []
text_fields n (Some t) = text_field n t ∷ []

-- the scale of a cell's size, where it was reported
abbrev pub scale_fields : Option ℕ → List Field
scale_fields None = []
scale_fields (Some s) = number_field name.Scale s ∷ []

-- the size of a file, where it is given
abbrev pub size_fields : Option ℕ → List Field
size_fields None = []
size_fields (Some k) = size_field name.Size k ∷ []

-- a dimension, whose name says the unit; nothing if it is automatic
abbrev pub dimension_fields : FieldName → FieldName → FieldName → ITermDimension → List Field
dimension_fields c p r Automatic = []
dimension_fields c p r (Cells z) = signed_field c z ∷ []
dimension_fields c p r (Pixels z) = signed_field p z ∷ []
dimension_fields c p r (Percent z) = signed_field r z ∷ []

abbrev pub width_fields : ITermDimension → List Field
width_fields d = dimension_fields name.WidthCells name.WidthPixels name.WidthPercent d

abbrev pub height_fields : ITermDimension → List Field
height_fields d = dimension_fields name.HeightCells name.HeightPixels name.HeightPercent d

module _ {A : Type 0} where
  -- the fields that say how a file is shown, and its content
  abbrev pub shown_fields : ITermFileData A → List Field
  shown_fields f = flag_field name.PreserveAspectRatio f.preserve_aspect_ratio
      ∷ flag_field name.Inline f.inline ∷ flag_field name.DoNotMoveCursor f.do_not_move_cursor
      ∷ text_field name.Content f.content ∷ []

  abbrev pub file_fields : ITermFileData A → List Field
  file_fields f = text_fields name.Name f.name ++ (size_fields f.size ++ (width_fields f.width
      ++ (height_fields f.height ++ shown_fields f)))

  -- the version that is set, or the label under which one is kept or brought back
  abbrev pub version_fields : ITermUnicodeVersionOp A → List Field
  version_fields (version.Set n) = number_field name.Version n ∷ []
  version_fields (version.Push l) = text_fields name.Label l
  version_fields (version.Pop l) = text_fields name.Label l

  abbrev pub iterm_fields : ITermProprietary A → List Field
  iterm_fields iterm.SetMark = []
  iterm_fields iterm.StealFocus = []
  iterm_fields iterm.ClearScrollback = []
  iterm_fields (iterm.CurrentDir t) = text_field name.Directory t ∷ []
  iterm_fields (iterm.SetProfile t) = text_field name.Name t ∷ []
  iterm_fields (iterm.CopyToClipboard t) = text_field name.Name t ∷ []
  iterm_fields iterm.EndCopy = []
  iterm_fields (iterm.HighlightCursorLine b) = flag_field name.Highlighted b ∷ []
  iterm_fields iterm.RequestCellSize = []
  iterm_fields (iterm.ReportCellSize h w s) =
      number_field name.CellHeight h ∷ number_field name.CellWidth w ∷ scale_fields s
  iterm_fields (iterm.Copy t) = text_field name.Text t ∷ []
  iterm_fields (iterm.ReportVariable t) = text_field name.Name t ∷ []
  iterm_fields (iterm.SetUserVar n v) = text_field name.Name n ∷ text_field name.Value v ∷ []
  iterm_fields (iterm.SetBadgeFormat t) = text_field name.Text t ∷ []
  iterm_fields (iterm.File f) = file_fields f
  iterm_fields (iterm.UnicodeVersion v) = version_fields v
