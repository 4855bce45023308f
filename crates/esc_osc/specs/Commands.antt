-- The text of a command.
use Rattle.std.specs.Prelude.{ℕ, ◌≡◌, ◌⊎◌, Bool, true, false, List, ◌∷◌, ◌++◌, codes, Option, Some, None}
use Rattle.std.specs.Fmt.{decimal}
use Rattle.std.specs.List.{flat_map}
use Rattle.std.specs.Str.Lossy.{utf8_lossy}
use Rattle.esc_values.specs.Base64.{base64_text}
use Rattle.esc_values.specs.Clear.{framed_text}
use Rattle.esc_links.specs.Hyperlinks.{link_text}
use Rattle.esc_iterm.specs.ITerms.{iterm_text}
use Rattle.esc_prompts.specs.Prompts.{prompt_text}
use Rattle.esc_osc_values.specs.Codes.{code_text, change_code, reset_code}
use Rattle.esc_osc_values.specs.Colors.{spec_text, pair_text}
use Rattle.esc_osc_values.specs.Lists.{joined_by}
use Rattle.esc_osc_values.specs.Progresses.{progress_text}
use Rattle.esc_osc_values.specs.Selections.{selection_text}
use Rattle.esc_osc_values.specs.declared.code.OperatingSystemCommandCode.{OperatingSystemCommandCode}
use Rattle.esc_osc_values.specs.declared.code.OperatingSystemCommandCode.TheVariants as code
use Rattle.esc_osc.specs.declared.command.OperatingSystemCommand.{OperatingSystemCommand}
use Rattle.esc_osc.specs.declared.command.OperatingSystemCommand.TheVariants as command

-- a code, `;` and a title
abbrev pub title_command : OperatingSystemCommandCode → List ℕ → List ℕ
title_command c t = code_text c ++ 0x3b ∷ t

-- a code and items, each after a `;`
abbrev pub listed_text : {X : Type 0} → OperatingSystemCommandCode → (X → List ℕ) → List X → List ℕ
listed_text c f xs = code_text c ++ flat_map (λ x. 0x3b ∷ f x) xs

-- the text between `ESC ]` and the string terminator
abbrev pub inner_text : {A : Type 0} → OperatingSystemCommand A → List ℕ
inner_text (command.SetIconNameAndWindowTitle t) = title_command code.SetIconNameAndWindowTitle t
inner_text (command.SetWindowTitle t) = title_command code.SetWindowTitle t
inner_text (command.SetWindowTitleSun t) = code_text code.SetWindowTitleSun ++ t
inner_text (command.SetIconName t) = title_command code.SetIconName t
inner_text (command.SetIconNameSun t) = code_text code.SetIconNameSun ++ t
inner_text (command.SetHyperlink h) = link_text h
inner_text (command.ClearSelection s) =
    title_command code.ManipulateSelectionData (selection_text s.0)
inner_text (command.QuerySelection s) =
    title_command code.ManipulateSelectionData (selection_text s.0 ++ codes ";?")
inner_text (command.SetSelection s t) =
    title_command code.ManipulateSelectionData (selection_text s.0 ++ 0x3b ∷ base64_text t)
inner_text (command.SystemNotification t) = title_command code.SystemNotification t
inner_text (command.ITermProprietary c) = iterm_text c
inner_text (command.FinalTermSemanticPrompt p) = prompt_text p
inner_text (command.ChangeColorNumber ps) =
    title_command code.ChangeColorNumber (joined_by pair_text ps)
inner_text (command.ChangeDynamicColors n cs) = listed_text (change_code n) spec_text cs
inner_text (command.ResetDynamicColor n) = code_text (reset_code n)
inner_text (command.CurrentWorkingDirectory t) = title_command code.SetCurrentWorkingDirectory t
inner_text (command.ResetColors ns) = listed_text code.ResetColors decimal ns
inner_text (command.RxvtExtension ts) = listed_text code.RxvtProprietary (λ t. t) ts
inner_text (command.ConEmuProgress p) = title_command code.SystemNotification (progress_text p)
inner_text (command.Unspecified ps) = joined_by utf8_lossy ps

-- a code whose text the title follows at once
abbrev pub IsLetter : OperatingSystemCommandCode → Type 0
IsLetter c = (c ≡ code.SetWindowTitleSun) ⊎ (c ≡ code.SetIconNameSun)

-- a text is written under a code: it is that of the code, alone, before a `;`, or before the title
-- of a letter
abbrev pub IsUnder : OperatingSystemCommandCode → List ℕ → Type 0
IsUnder c t = (t ≡ code_text c)
    ⊎ (((rest : List ℕ) × (t ≡ title_command c rest))
    ⊎ (IsLetter c × ((rest : List ℕ) × (t ≡ code_text c ++ rest))))

-- parts that are kept as they are
abbrev pub is_unspecified : {A : Type 0} → OperatingSystemCommand A → Bool
is_unspecified (command.Unspecified ps) = true
is_unspecified c = false

-- the code under which each command is written
abbrev pub code_under : {A : Type 0} → OperatingSystemCommand A → Option OperatingSystemCommandCode
code_under (command.SetIconNameAndWindowTitle t) = Some code.SetIconNameAndWindowTitle
code_under (command.SetWindowTitle t) = Some code.SetWindowTitle
code_under (command.SetWindowTitleSun t) = Some code.SetWindowTitleSun
code_under (command.SetIconName t) = Some code.SetIconName
code_under (command.SetIconNameSun t) = Some code.SetIconNameSun
code_under (command.SetHyperlink h) = Some code.SetHyperlink
code_under (command.ClearSelection s) = Some code.ManipulateSelectionData
code_under (command.QuerySelection s) = Some code.ManipulateSelectionData
code_under (command.SetSelection s t) = Some code.ManipulateSelectionData
code_under (command.SystemNotification t) = Some code.SystemNotification
code_under (command.ITermProprietary c) = Some code.ITermProprietary
code_under (command.FinalTermSemanticPrompt p) = Some code.FinalTermSemanticPrompt
code_under (command.ChangeColorNumber ps) = Some code.ChangeColorNumber
code_under (command.ChangeDynamicColors n cs) = Some (change_code n)
code_under (command.ResetDynamicColor n) = Some (reset_code n)
code_under (command.CurrentWorkingDirectory t) = Some code.SetCurrentWorkingDirectory
code_under (command.ResetColors ns) = Some code.ResetColors
code_under (command.RxvtExtension ts) = Some code.RxvtProprietary
code_under (command.ConEmuProgress p) = Some code.SystemNotification
code_under (command.Unspecified ps) = None

-- the whole text of a command
abbrev pub command_text : {A : Type 0} → OperatingSystemCommand A → List ℕ
command_text c = framed_text (inner_text c)
