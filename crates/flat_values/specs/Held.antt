-- A command's parts lie within bounds, as in a program: texts are UTF-8, numbers have the width of
-- their types, and the parameters of a link are in order, each key once.
use Rattle.std.specs.Prelude.{ℕ, ℤ, ◌≡◌, ◌<◌, ◌^◌, List, [], ◌∷◌, map, Option, Some, None}
use Rattle.std.specs.List.{flat_map}
use Rattle.std.specs.Str.{IsUtf8}
use Rattle.esc_values.specs.Scalars.{IsSigned}
use Rattle.esc_links.specs.Hyperlinks.{put_all}
use Rattle.esc_links.specs.declared.hyperlink.Hyperlink.{Hyperlink}
use Rattle.esc_iterm.specs.declared.proprietary.ITermProprietary.{ITermProprietary}
use Rattle.esc_iterm.specs.declared.proprietary.ITermProprietary.TheVariants as iterm
use Rattle.esc_iterm.specs.declared.unicode_version.ITermUnicodeVersionOp.{ITermUnicodeVersionOp}
use Rattle.esc_iterm.specs.declared.unicode_version.ITermUnicodeVersionOp.TheVariants as version
use Rattle.esc_prompts.specs.declared.prompt.FinalTermSemanticPrompt.{FinalTermSemanticPrompt}
use Rattle.esc_prompts.specs.declared.prompt.FinalTermSemanticPrompt.TheVariants as prompt
use Rattle.esc_osc_values.specs.declared.change_color_pair.ChangeColorPair.{ChangeColorPair}
use Rattle.esc_osc_values.specs.declared.color_or_query.ColorOrQuery.{ColorOrQuery}
use Rattle.esc_osc_values.specs.declared.color_or_query.ColorOrQuery.TheVariants.{Color, Query}
use Rattle.esc_osc_values.specs.declared.progress.Progress.{Progress}
use Rattle.esc_osc_values.specs.declared.progress.Progress.TheVariants as progress
use Rattle.esc_osc.specs.declared.command.OperatingSystemCommand.{OperatingSystemCommand}
use Rattle.esc_osc.specs.declared.command.OperatingSystemCommand.TheVariants as command
use Rattle.flat_values.specs.Commands.{fields_of}
use Rattle.flat_values.specs.Fields.{Table, table_of}
use Rattle.flat_values.specs.Kinds.{kind_number, kind_of}

-- bounds a part: a number below a limit, one that may be negative, a text, and the parameters of a
-- link
pub record Bounds : Type 1 where
  pub Number : ℕ → ℕ → Type 0
  pub Signed : ℤ → Type 0
  pub Text : List ℕ → Type 0
  pub Parameters : List (List ℕ × List ℕ) → Type 0

-- as the types of a program hold it
abbrev pub types : Bounds
types = record {
  Number = λ limit n. n < limit;
  Signed = λ z. IsSigned 32 z;
  Text = λ t. IsUtf8 t;
  Parameters = λ es. put_all [] es ≡ es;
}

-- a part: a number with its limit, one that may be negative, a text, and the parameters of a link
pub data Part : Type 0 where
  Limited : ℕ → ℕ → Part
  Signed : ℤ → Part
  Text : List ℕ → Part
  Parameters : List (List ℕ × List ℕ) → Part

abbrev pub IsPart : Bounds → Part → Type 0
IsPart b (Limited limit n) = b.Number limit n
IsPart b (Signed z) = b.Signed z
IsPart b (Text t) = b.Text t
IsPart b (Parameters es) = b.Parameters es

-- parts within bounds, and texts
abbrev pub AreWithin : Bounds → List Part → Type 0
AreWithin b [] = Unit {0}
AreWithin b (p ∷ ps) = IsPart b p × AreWithin b ps

abbrev pub AreTexts : Bounds → List (List ℕ) → Type 0
AreTexts b ts = AreWithin b (map Text ts)

-- the parts that have bounds: of an optional text, of colours, of the progress of a task
abbrev pub text_parts : Option (List ℕ) → List Part
text_parts None = []
text_parts (Some t) = Text t ∷ []

abbrev pub scale_parts : Option ℕ → List Part
scale_parts None = []
scale_parts (Some s) = Limited (2 ^ 32) s ∷ []

abbrev pub color_parts : ColorOrQuery → List Part
color_parts (Color c) =
    Limited (2 ^ 16) c.red ∷ Limited (2 ^ 16) c.green ∷ Limited (2 ^ 16) c.blue ∷ []
color_parts Query = []

abbrev pub pair_parts : ChangeColorPair → List Part
pair_parts p = Limited (2 ^ 8) p.palette_index ∷ color_parts p.color

abbrev pub progress_parts : Progress → List Part
progress_parts (progress.SetPercentage n) = Limited (2 ^ 8) n ∷ []
progress_parts (progress.SetError n) = Limited (2 ^ 8) n ∷ []
progress_parts p = []

abbrev pub parameter_parts : List ℕ × List ℕ → List Part
parameter_parts e = Text e.0 ∷ Text e.1 ∷ []

module _ {A : Type 0} where
  abbrev pub link_parts : Option (Hyperlink A) → List Part
  link_parts None = []
  link_parts (Some h) =
      Text h.uri ∷ Parameters h.params ∷ flat_map parameter_parts h.params

  abbrev pub version_parts : ITermUnicodeVersionOp A → List Part
  version_parts (version.Set n) = Limited (2 ^ 8) n ∷ []
  version_parts (version.Push l) = text_parts l
  version_parts (version.Pop l) = text_parts l

  abbrev pub iterm_parts : ITermProprietary A → List Part
  iterm_parts (iterm.CurrentDir t) = Text t ∷ []
  iterm_parts (iterm.SetProfile t) = Text t ∷ []
  iterm_parts (iterm.CopyToClipboard t) = Text t ∷ []
  iterm_parts (iterm.ReportCellSize h w s) =
      Limited (2 ^ 32) h ∷ Limited (2 ^ 32) w ∷ scale_parts s
  iterm_parts (iterm.Copy t) = Text t ∷ []
  iterm_parts (iterm.ReportVariable t) = Text t ∷ []
  iterm_parts (iterm.SetUserVar n t) = Text n ∷ Text t ∷ []
  iterm_parts (iterm.SetBadgeFormat t) = Text t ∷ []
  iterm_parts (iterm.File f) = text_parts f.name
  iterm_parts (iterm.UnicodeVersion v) = version_parts v
  iterm_parts c = []

  abbrev pub prompt_parts : FinalTermSemanticPrompt A → List Part
  prompt_parts (prompt.FreshLineAndStartPrompt aid cl) = text_parts aid
  prompt_parts (prompt.MarkEndOfCommandWithFreshLine aid cl) = text_parts aid
  prompt_parts (prompt.MarkEndOfInputAndStartOfOutput aid) = text_parts aid
  prompt_parts (prompt.CommandStatus s aid) = Signed s ∷ text_parts aid
  prompt_parts p = []

  -- the parts of a command that have bounds
  abbrev pub parts_of : OperatingSystemCommand A → List Part
  parts_of (command.SetIconNameAndWindowTitle t) = Text t ∷ []
  parts_of (command.SetWindowTitle t) = Text t ∷ []
  parts_of (command.SetWindowTitleSun t) = Text t ∷ []
  parts_of (command.SetIconName t) = Text t ∷ []
  parts_of (command.SetIconNameSun t) = Text t ∷ []
  parts_of (command.SetHyperlink h) = link_parts h
  parts_of (command.ClearSelection s) = Limited (2 ^ 16) s.0 ∷ []
  parts_of (command.QuerySelection s) = Limited (2 ^ 16) s.0 ∷ []
  parts_of (command.SetSelection s t) = Limited (2 ^ 16) s.0 ∷ Text t ∷ []
  parts_of (command.SystemNotification t) = Text t ∷ []
  parts_of (command.ITermProprietary c) = iterm_parts c
  parts_of (command.FinalTermSemanticPrompt p) = prompt_parts p
  parts_of (command.ChangeColorNumber ps) = flat_map pair_parts ps
  parts_of (command.ChangeDynamicColors n cs) = flat_map color_parts cs
  parts_of (command.ResetDynamicColor n) = []
  parts_of (command.CurrentWorkingDirectory t) = Text t ∷ []
  parts_of (command.ResetColors ns) = map (Limited (2 ^ 8)) ns
  parts_of (command.RxvtExtension ts) = map Text ts
  parts_of (command.ConEmuProgress p) = progress_parts p
  parts_of (command.Unspecified ps) = []

  -- one whose parts are as the types of a program hold them
  abbrev pub IsHeld : OperatingSystemCommand A → Type 0
  IsHeld c = AreWithin types (parts_of c)

  -- the number of a kind, rows and the texts of their fields are those of a command
  abbrev pub Has : ℕ → Table → OperatingSystemCommand A → Type 0
  Has k t c = (kind_number (kind_of c) ≡ k) × (table_of (fields_of c) ≡ t)
