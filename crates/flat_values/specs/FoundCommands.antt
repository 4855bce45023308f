-- The command that a kind and rows say.
use Rattle.std.specs.Prelude.{ℕ, List, get_or, map}
use Rattle.esc_iterm.specs.declared.proprietary.ITermProprietary.TheVariants as iterm
use Rattle.esc_prompts.specs.declared.prompt.FinalTermSemanticPrompt.TheVariants as prompt
use Rattle.esc_osc.specs.declared.command.OperatingSystemCommand.{OperatingSystemCommand}
use Rattle.esc_osc.specs.declared.command.OperatingSystemCommand.TheVariants as command
use Rattle.flat_values.specs.Fields.{text_of}
use Rattle.flat_values.specs.Found.{NamedValue, Reading, after, byte_of, channel_of, first, second, string_of}
use Rattle.flat_values.specs.FoundItems.{colors_after, dynamic_of, link_in, nothing, pairs_after, progress_in}
use Rattle.flat_values.specs.FoundPrompts.{iterm_in, prompt_in}
use Rattle.flat_values.specs.declared.kinds.BareKind.{BareKind}
use Rattle.flat_values.specs.declared.kinds.BareKind.TheVariants as bare
use Rattle.flat_values.specs.declared.kinds.Form.{Form}
use Rattle.flat_values.specs.declared.kinds.Form.TheVariants as form
use Rattle.flat_values.specs.declared.kinds.Form.TheVariants.{Bare, ITerm, Other, Prompt}
use Rattle.flat_values.specs.declared.kinds.OtherKind.{OtherKind}
use Rattle.flat_values.specs.declared.kinds.OtherKind.TheVariants as other
use Rattle.flat_values.specs.declared.kinds.TextKind.{TextKind}
use Rattle.flat_values.specs.declared.kinds.TextKind.TheVariants as text
use Rattle.flat_values.specs.declared.kinds.TheConstants.{FORMS}

-- how the command of the kind of this number is read
abbrev pub form_at : ℕ → Form
form_at n = get_or FORMS n (Other other.Unspecified)

module _ {A : Type 0} where
  -- the command of a kind that has nothing
  abbrev pub bared : BareKind → OperatingSystemCommand A
  bared bare.PromptFreshLine = command.FinalTermSemanticPrompt prompt.FreshLine
  bared bare.PromptInputUntilNextMarker =
      command.FinalTermSemanticPrompt prompt.MarkEndOfPromptAndStartOfInputUntilNextMarker
  bared bare.PromptInputUntilEndOfLine =
      command.FinalTermSemanticPrompt prompt.MarkEndOfPromptAndStartOfInputUntilEndOfLine
  bared bare.ITermSetMark = command.ITermProprietary iterm.SetMark
  bared bare.ITermStealFocus = command.ITermProprietary iterm.StealFocus
  bared bare.ITermClearScrollback = command.ITermProprietary iterm.ClearScrollback
  bared bare.ITermEndCopy = command.ITermProprietary iterm.EndCopy
  bared bare.ITermRequestCellSize = command.ITermProprietary iterm.RequestCellSize

  -- the command of a kind that has one text
  abbrev pub texted : TextKind → List ℕ → OperatingSystemCommand A
  texted text.IconNameAndWindowTitle t = command.SetIconNameAndWindowTitle t
  texted text.WindowTitle t = command.SetWindowTitle t
  texted text.WindowTitleSun t = command.SetWindowTitleSun t
  texted text.IconName t = command.SetIconName t
  texted text.IconNameSun t = command.SetIconNameSun t
  texted text.Notification t = command.SystemNotification t
  texted text.WorkingDirectory t = command.CurrentWorkingDirectory t
  texted text.ITermCurrentDir t = command.ITermProprietary (iterm.CurrentDir t)
  texted text.ITermSetProfile t = command.ITermProprietary (iterm.SetProfile t)
  texted text.ITermCopyToClipboard t = command.ITermProprietary (iterm.CopyToClipboard t)
  texted text.ITermCopy t = command.ITermProprietary (iterm.Copy t)
  texted text.ITermReportVariable t = command.ITermProprietary (iterm.ReportVariable t)
  texted text.ITermSetBadgeFormat t = command.ITermProprietary (iterm.SetBadgeFormat t)

  -- the command of a kind that is no prompt and none of iTerm2, and has more or less than one text
  abbrev pub other_in : Reading → OtherKind → List NamedValue → OperatingSystemCommand A
  other_in r other.Unspecified ss = command.Unspecified (map (λ s. text_of s.1) ss)
  other_in r other.Hyperlink ss = command.SetHyperlink (link_in r ss)
  other_in r other.ClearSelection ss = command.ClearSelection
      (record { 0 = channel_of r (first ss) })
  other_in r other.QuerySelection ss = command.QuerySelection
      (record { 0 = channel_of r (first ss) })
  other_in r other.SetSelection ss =
      command.SetSelection (record { 0 = channel_of r (first ss) }) (string_of r (second ss))
  other_in r other.ColorNumber ss = command.ChangeColorNumber (pairs_after r nothing ss)
  other_in r other.DynamicColors ss =
      command.ChangeDynamicColors (dynamic_of (first ss)) (colors_after r nothing (after ss))
  other_in r other.ResetDynamicColor ss = command.ResetDynamicColor (dynamic_of (first ss))
  other_in r other.ResetColors ss = command.ResetColors (map (λ s. byte_of r s.1) ss)
  other_in r other.Rxvt ss = command.RxvtExtension (map (λ s. string_of r s.1) ss)
  other_in r other.Progress ss = command.ConEmuProgress (progress_in r ss)

  -- the command of a kind
  abbrev pub command_in : Reading → Form → List NamedValue → OperatingSystemCommand A
  command_in r (Bare k) ss = bared k
  command_in r (form.Text k) ss = texted k (string_of r (first ss))
  command_in r (Prompt k) ss = command.FinalTermSemanticPrompt (prompt_in r k ss)
  command_in r (ITerm k) ss = command.ITermProprietary (iterm_in r k ss)
  command_in r (Other k) ss = other_in r k ss
