-- Prompts and the commands of iTerm2 that rows say.
use Rattle.std.specs.Prelude.{ℕ, ◌==◌, if◌then◌else◌, List, [], ◌∷◌, Option}
use Rattle.std.specs.Option.{option_map}
use Rattle.esc_iterm.specs.declared.dimension.ITermDimension.{ITermDimension}
use Rattle.esc_iterm.specs.declared.dimension.ITermDimension.TheVariants.{Automatic, Cells, Percent, Pixels}
use Rattle.esc_iterm.specs.declared.file_data.ITermFileData.{ITermFileData}
use Rattle.esc_iterm.specs.declared.proprietary.ITermProprietary.{ITermProprietary}
use Rattle.esc_iterm.specs.declared.proprietary.ITermProprietary.TheVariants as iterm
use Rattle.esc_iterm.specs.declared.unicode_version.ITermUnicodeVersionOp.TheVariants as version
use Rattle.esc_prompts.specs.declared.click.FinalTermClick.{FinalTermClick}
use Rattle.esc_prompts.specs.declared.click.FinalTermClick.TheVariants as click
use Rattle.esc_prompts.specs.declared.prompt.FinalTermSemanticPrompt.{FinalTermSemanticPrompt}
use Rattle.esc_prompts.specs.declared.prompt.FinalTermSemanticPrompt.TheVariants as prompt
use Rattle.esc_prompts.specs.declared.prompt_kind.FinalTermPromptKind.{FinalTermPromptKind}
use Rattle.esc_prompts.specs.declared.prompt_kind.FinalTermPromptKind.TheVariants as kind
use Rattle.flat_values.specs.Fields.{text_of}
use Rattle.flat_values.specs.Found.{NamedValue, Reading, after, byte_of, count_of, first, flag_of, is_named, length_of, named_value, number_of, past, second, size_of, string_of}
use Rattle.flat_values.specs.declared.field_name.FieldName.{FieldName}
use Rattle.flat_values.specs.declared.field_name.FieldName.TheVariants as name
use Rattle.flat_values.specs.declared.kinds.ITermKind.{ITermKind}
use Rattle.flat_values.specs.declared.kinds.ITermKind.TheVariants as other
use Rattle.flat_values.specs.declared.kinds.PromptForm.{PromptForm}
use Rattle.flat_values.specs.declared.kinds.PromptForm.TheVariants as form

-- a click and a kind of prompt by their numbers
abbrev pub click_of : ℕ → FinalTermClick
click_of n = if n == 0 then click.Line else if n == 1 then click.MultipleLine
    else if n == 2 then click.ConservativeVertical else click.SmartVertical

abbrev pub prompt_kind_of : ℕ → FinalTermPromptKind
prompt_kind_of n = if n == 0 then kind.Initial else if n == 1 then kind.RightSide
    else if n == 2 then kind.Continuation else kind.Secondary

-- a text, a number and a size that may be absent
abbrev pub text_in : Reading → FieldName → List NamedValue → Option (List ℕ)
text_in r n ss = option_map (string_of r) (named_value n ss)

abbrev pub scale_in : Reading → List NamedValue → Option ℕ
scale_in r ss = option_map (length_of r) (named_value name.Scale ss)

abbrev pub size_in : List NamedValue → Option ℕ
size_in ss = option_map size_of (named_value name.Size ss)

abbrev pub click_in : List NamedValue → Option FinalTermClick
click_in ss = option_map (λ v. click_of (count_of v)) (named_value name.Click ss)

-- a dimension of three units, each under a name of its own; then the rows after it
abbrev pub dimension_in : FieldName → FieldName → FieldName → List NamedValue → ITermDimension
dimension_in c p r [] = Automatic
dimension_in c p r (s ∷ ss) =
    if is_named c s then Cells (number_of s.1) else if is_named p s then Pixels (number_of s.1)
    else if is_named r s then Percent (number_of s.1) else Automatic

abbrev pub width_in : List NamedValue → ITermDimension
width_in ss = dimension_in name.WidthCells name.WidthPixels name.WidthPercent ss

abbrev pub past_width : List NamedValue → List NamedValue
past_width ss = past name.WidthPercent (past name.WidthPixels (past name.WidthCells ss))

abbrev pub height_in : List NamedValue → ITermDimension
height_in ss = dimension_in name.HeightCells name.HeightPixels name.HeightPercent ss

abbrev pub past_height : List NamedValue → List NamedValue
past_height ss = past name.HeightPercent (past name.HeightPixels (past name.HeightCells ss))

-- where the keys of a prompt begin: after its status, where it has one
abbrev pub keys_in : PromptForm → List NamedValue → List NamedValue
keys_in form.CommandStatus ss = after ss
keys_in k ss = ss

module _ {A : Type 0} where
  -- a file of its name, its size, its dimensions, and the rows after these
  abbrev pub file_with : Option (List ℕ) → Option ℕ → ITermDimension → ITermDimension
      → List NamedValue → ITermFileData A
  file_with n k w h ss = record {
    name = n;
    size = k;
    width = w;
    height = h;
    preserve_aspect_ratio = flag_of (first ss);
    inline = flag_of (second ss);
    do_not_move_cursor = flag_of (second (after ss));
    content = text_of (second (after (after ss)));
  }

  abbrev pub high_in : Option (List ℕ) → Option ℕ → ITermDimension → List NamedValue
      → ITermFileData A
  high_in n k w ss = file_with n k w (height_in ss) (past_height ss)

  abbrev pub sized_in : Option (List ℕ) → List NamedValue → ITermFileData A
  sized_in n ss = high_in n (size_in ss) (width_in (past name.Size ss))
      (past_width (past name.Size ss))

  abbrev pub file_in : Reading → List NamedValue → ITermFileData A
  file_in r ss = sized_in (text_in r name.Name ss) (past name.Name ss)

  -- the prompt of a kind, with the name of the application where it has one
  abbrev pub prompted : Reading → PromptForm → Option (List ℕ) → List NamedValue
      → FinalTermSemanticPrompt A
  prompted r form.FreshLineAndStart a ss =
      prompt.FreshLineAndStartPrompt a (click_in (past name.Application ss))
  prompted r form.EndOfCommandWithFreshLine a ss =
      prompt.MarkEndOfCommandWithFreshLine a (click_in (past name.Application ss))
  prompted r form.Start a ss = prompt.StartPrompt (prompt_kind_of (count_of (first ss)))
  prompted r form.StartOfOutput a ss = prompt.MarkEndOfInputAndStartOfOutput a
  prompted r form.CommandStatus a ss =
      prompt.CommandStatus (r.signed (number_of (first ss))) a

  abbrev pub prompt_in : Reading → PromptForm → List NamedValue → FinalTermSemanticPrompt A
  prompt_in r k ss = prompted r k (text_in r name.Application (keys_in k ss)) ss

  -- the size of a cell
  abbrev pub cell_size_in : Reading → List NamedValue → ITermProprietary A
  cell_size_in r ss = iterm.ReportCellSize (length_of r (first ss)) (length_of r (second ss))
      (scale_in r (after (after ss)))

  -- the command of any other kind of iTerm2
  abbrev pub iterm_in : Reading → ITermKind → List NamedValue → ITermProprietary A
  iterm_in r other.HighlightCursorLine ss = iterm.HighlightCursorLine (flag_of (first ss))
  iterm_in r other.ReportCellSize ss = cell_size_in r ss
  iterm_in r other.SetUserVar ss =
      iterm.SetUserVar (string_of r (first ss)) (string_of r (second ss))
  iterm_in r other.File ss = iterm.File (file_in r ss)
  iterm_in r other.SetVersion ss = iterm.UnicodeVersion (version.Set (byte_of r (first ss)))
  iterm_in r other.PushVersion ss = iterm.UnicodeVersion (version.Push (text_in r name.Label ss))
  iterm_in r other.PopVersion ss = iterm.UnicodeVersion (version.Pop (text_in r name.Label ss))
