-- Parts mean a command.
use Rattle.std.specs.Prelude.{ℕ, nat_eq, if◌then◌else◌, List, [], ◌∷◌, map, drop, codes, Option, Some, None}
use Rattle.std.specs.Cmp.Lexicographic.{pointwise}
use Rattle.std.specs.Option.{option_map, unwrap_or}
use Rattle.std.specs.Str.Lossy.{utf8_lossy}
use Rattle.esc_values.specs.Base64.{base64_text_of}
use Rattle.esc_links.specs.Hyperlinks.{link_of}
use Rattle.esc_values.specs.Scalars.{and_then, utf8_of}
use Rattle.esc_iterm.specs.ITerms.{iterm_of}
use Rattle.esc_prompts.specs.Prompts.{prompt_of}
use Rattle.esc_osc_values.specs.Codes.{code_of, code_name, changed_by, reset_by}
use Rattle.esc_osc_values.specs.Colors.{colors_of, pairs_of}
use Rattle.esc_osc_values.specs.Lists.{title_of, lone_text, numbers_of}
use Rattle.esc_osc_values.specs.Progresses.{progress_of}
use Rattle.esc_osc_values.specs.Selections.{selection_of, selection}
use Rattle.esc_osc_values.specs.declared.code.OperatingSystemCommandCode.{OperatingSystemCommandCode}
use Rattle.esc_osc_values.specs.declared.code.OperatingSystemCommandCode.TheVariants as code
use Rattle.esc_osc.specs.declared.command.OperatingSystemCommand.{OperatingSystemCommand}
use Rattle.esc_osc.specs.declared.command.OperatingSystemCommand.TheVariants as command
use Rattle.esc_osc_values.specs.declared.dynamic_color_number.DynamicColorNumber.{DynamicColorNumber}
use Rattle.esc_osc_values.specs.declared.progress.Progress.{Progress}

-- a selection and a base64 text
abbrev pub content_of : {A : Type 0} → List ℕ → List ℕ → Option (OperatingSystemCommand A)
content_of s t = and_then (selection_of s) (λ b.
    option_map (λ text. command.SetSelection (selection b) text) (base64_text_of t))

-- a selection alone, with `?`, or with a text
abbrev pub selection_command : {A : Type 0} → List (List ℕ) → Option (OperatingSystemCommand A)
selection_command (s ∷ []) = option_map (λ b. command.ClearSelection (selection b)) (selection_of s)
selection_command (s ∷ t ∷ []) = if pointwise nat_eq t (codes "?")
    then option_map (λ b. command.QuerySelection (selection b)) (selection_of s) else content_of s t
selection_command ps = None

-- the progress of a task, else a notification
abbrev pub notification : {A : Type 0} → Option Progress → Option (List ℕ)
    → Option (OperatingSystemCommand A)
notification (Some p) t = Some (command.ConEmuProgress p)
notification None t = option_map command.SystemNotification t

-- a dynamic colour that is changed, else one that is reset
abbrev pub dynamic_command : {A : Type 0} → Option DynamicColorNumber → Option DynamicColorNumber
    → List (List ℕ) → Option (OperatingSystemCommand A)
dynamic_command (Some n) r args = option_map (command.ChangeDynamicColors n) (colors_of args)
dynamic_command None (Some n) args = Some (command.ResetDynamicColor n)
dynamic_command None None args = None

-- the command of a code, the lossy text of the first part and the parts after it, one line a
-- code; none if they do not fit it
abbrev pub reading : {A : Type 0} → OperatingSystemCommandCode → List ℕ → List (List ℕ)
    → Option (OperatingSystemCommand A)
reading code.SetIconNameAndWindowTitle t args =
    option_map command.SetIconNameAndWindowTitle (title_of args)
reading code.SetIconName t args = option_map command.SetIconName (title_of args)
reading code.SetWindowTitle t args = option_map command.SetWindowTitle (title_of args)
reading code.ChangeColorNumber t args = option_map command.ChangeColorNumber (pairs_of args)
reading code.SetCurrentWorkingDirectory t args =
    option_map command.CurrentWorkingDirectory (lone_text args)
reading code.SetHyperlink t args = option_map command.SetHyperlink (link_of (t ∷ args))
reading code.SystemNotification t args = notification (progress_of args) (lone_text args)
reading code.ManipulateSelectionData t args = selection_command args
reading code.ResetColors t args = option_map command.ResetColors (numbers_of args)
reading code.FinalTermSemanticPrompt t args =
    option_map command.FinalTermSemanticPrompt (prompt_of args)
reading code.RxvtProprietary t args = Some (command.RxvtExtension (map utf8_lossy args))
reading code.ITermProprietary t args = option_map command.ITermProprietary (iterm_of args)
reading code.SetWindowTitleSun t args = option_map command.SetWindowTitleSun (utf8_of (drop 1 t))
reading code.SetIconNameSun t args = option_map command.SetIconNameSun (utf8_of (drop 1 t))
reading c t args = dynamic_command (changed_by c) (reset_by c) args

-- the command of the code that the first part's lossy text names, and of the parts after it
abbrev pub named_command : {A : Type 0} → List ℕ → List (List ℕ) → Option (OperatingSystemCommand A)
named_command t args = and_then (code_of (code_name t args)) (λ c. reading c t args)

-- the case that fits: the lossy text of the first part names the code
abbrev pub fitting : {A : Type 0} → List (List ℕ) → Option (OperatingSystemCommand A)
fitting [] = None
fitting (p ∷ args) = named_command (utf8_lossy p) args

-- the meaning of parts: the case that fits, else the parts as they are
abbrev pub meaning : {A : Type 0} → List (List ℕ) → OperatingSystemCommand A
meaning ps = unwrap_or (fitting ps) (command.Unspecified ps)
