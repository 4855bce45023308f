-- The fields of commands.
use Rattle.std.specs.Prelude.{ℕ, List, [], ◌∷◌}
use Rattle.std.specs.List.{flat_map}
use Rattle.esc_osc_values.specs.Codes.{color_number}
use Rattle.esc_osc_values.specs.declared.change_color_pair.ChangeColorPair.{ChangeColorPair}
use Rattle.esc_osc_values.specs.declared.color_or_query.ColorOrQuery.{ColorOrQuery}
use Rattle.esc_osc_values.specs.declared.color_or_query.ColorOrQuery.TheVariants.{Color, Query}
use Rattle.esc_osc_values.specs.declared.progress.Progress.{Progress}
use Rattle.esc_osc_values.specs.declared.progress.Progress.TheVariants as progress
use Rattle.esc_osc.specs.declared.command.OperatingSystemCommand.{OperatingSystemCommand}
use Rattle.esc_osc.specs.declared.command.OperatingSystemCommand.TheVariants as command
use Rattle.flat_values.specs.Fields.{Field, number_field, text_field}
use Rattle.flat_values.specs.Links.{link_fields}
use Rattle.flat_values.specs.Prompts.{prompt_fields}
use Rattle.flat_values.specs.Proprietary.{iterm_fields}
use Rattle.flat_values.specs.declared.field_name.FieldName.TheVariants as name

-- a colour, or the question for one
abbrev pub color_fields : ColorOrQuery → List Field
color_fields (Color c) =
    number_field name.Red c.red ∷ number_field name.Green c.green
    ∷ number_field name.Blue c.blue ∷ []
color_fields Query = number_field name.Query 1 ∷ []

-- a place of the palette, and its colour
abbrev pub pair_fields : ChangeColorPair → List Field
pair_fields p = number_field name.PaletteIndex p.palette_index ∷ color_fields p.color

-- a place of the palette
abbrev pub index_fields : ℕ → List Field
index_fields n = number_field name.PaletteIndex n ∷ []

-- a part of a command that is kept as its parts
abbrev pub part_fields : List ℕ → List Field
part_fields t = text_field name.Part t ∷ []

-- the state of a task, by its number in ConEmu's command, and how far it is
abbrev pub progress_fields : Progress → List Field
progress_fields progress.None = number_field name.ProgressState 0 ∷ []
progress_fields (progress.SetPercentage n) =
    number_field name.ProgressState 1 ∷ number_field name.Percent n ∷ []
progress_fields (progress.SetError n) =
    number_field name.ProgressState 2 ∷ number_field name.Percent n ∷ []
progress_fields progress.SetIndeterminate = number_field name.ProgressState 3 ∷ []
progress_fields progress.Paused = number_field name.ProgressState 4 ∷ []

-- These are the fields of a command, in order: an optional part that is not given has no field, and
-- the items of a list come one after another. With its kind they are the whole of it, as the law
-- `are_whole` says.
abbrev pub fields_of : {A : Type 0} → OperatingSystemCommand A → List Field
fields_of (command.SetIconNameAndWindowTitle t) = text_field name.Text t ∷ []
fields_of (command.SetWindowTitle t) = text_field name.Text t ∷ []
fields_of (command.SetWindowTitleSun t) = text_field name.Text t ∷ []
fields_of (command.SetIconName t) = text_field name.Text t ∷ []
fields_of (command.SetIconNameSun t) = text_field name.Text t ∷ []
fields_of (command.SetHyperlink h) = link_fields h
fields_of (command.ClearSelection s) = number_field name.Selection s.0 ∷ []
fields_of (command.QuerySelection s) = number_field name.Selection s.0 ∷ []
fields_of (command.SetSelection s t) = number_field name.Selection s.0 ∷ text_field name.Text t ∷ []
fields_of (command.SystemNotification t) = text_field name.Text t ∷ []
fields_of (command.ITermProprietary c) = iterm_fields c
fields_of (command.FinalTermSemanticPrompt p) = prompt_fields p
fields_of (command.ChangeColorNumber ps) = flat_map pair_fields ps
fields_of (command.ChangeDynamicColors n cs) =
    number_field name.DynamicColor (color_number n) ∷ flat_map color_fields cs
fields_of (command.ResetDynamicColor n) = number_field name.DynamicColor (color_number n) ∷ []
fields_of (command.CurrentWorkingDirectory t) = text_field name.Directory t ∷ []
fields_of (command.ResetColors ns) = flat_map index_fields ns
fields_of (command.RxvtExtension ts) = flat_map part_fields ts
fields_of (command.ConEmuProgress p) = progress_fields p
fields_of (command.Unspecified ps) = flat_map part_fields ps
