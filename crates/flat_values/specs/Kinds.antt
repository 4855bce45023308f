-- The kinds of commands: one for each command, also of the commands of iTerm2 and of prompts.
use Rattle.std.specs.Prelude.{ℕ}
use Rattle.esc_iterm.specs.declared.proprietary.ITermProprietary.{ITermProprietary}
use Rattle.esc_iterm.specs.declared.proprietary.ITermProprietary.TheVariants as iterm
use Rattle.esc_iterm.specs.declared.unicode_version.ITermUnicodeVersionOp.{ITermUnicodeVersionOp}
use Rattle.esc_iterm.specs.declared.unicode_version.ITermUnicodeVersionOp.TheVariants as version
use Rattle.esc_prompts.specs.declared.prompt.FinalTermSemanticPrompt.{FinalTermSemanticPrompt}
use Rattle.esc_prompts.specs.declared.prompt.FinalTermSemanticPrompt.TheVariants as prompt
use Rattle.esc_osc.specs.declared.command.OperatingSystemCommand.{OperatingSystemCommand}
use Rattle.esc_osc.specs.declared.command.OperatingSystemCommand.TheVariants as command
use Rattle.flat_values.specs.contracts.command_kind.CommandKind.{the_type}
use Rattle.flat_values.specs.declared.command_kind.CommandKind.{CommandKind}
use Rattle.flat_values.specs.declared.command_kind.CommandKind.TheVariants as kind
use denote.Enum.Declared.{tag_of}

-- the kinds are numbered in the order of their enum, from 0
abbrev pub kind_number : CommandKind → ℕ
kind_number k = tag_of the_type k

module _ {A : Type 0} where
  abbrev pub version_kind : ITermUnicodeVersionOp A → CommandKind
  version_kind (version.Set n) = kind.ITermSetUnicodeVersion
  version_kind (version.Push l) = kind.ITermPushUnicodeVersion
  version_kind (version.Pop l) = kind.ITermPopUnicodeVersion

  abbrev pub iterm_kind : ITermProprietary A → CommandKind
  iterm_kind iterm.SetMark = kind.ITermSetMark
  iterm_kind iterm.StealFocus = kind.ITermStealFocus
  iterm_kind iterm.ClearScrollback = kind.ITermClearScrollback
  iterm_kind (iterm.CurrentDir t) = kind.ITermCurrentDir
  iterm_kind (iterm.SetProfile t) = kind.ITermSetProfile
  iterm_kind (iterm.CopyToClipboard t) = kind.ITermCopyToClipboard
  iterm_kind iterm.EndCopy = kind.ITermEndCopy
  iterm_kind (iterm.HighlightCursorLine b) = kind.ITermHighlightCursorLine
  iterm_kind iterm.RequestCellSize = kind.ITermRequestCellSize
  iterm_kind (iterm.ReportCellSize h w s) = kind.ITermReportCellSize
  iterm_kind (iterm.Copy t) = kind.ITermCopy
  iterm_kind (iterm.ReportVariable t) = kind.ITermReportVariable
  iterm_kind (iterm.SetUserVar n v) = kind.ITermSetUserVar
  iterm_kind (iterm.SetBadgeFormat t) = kind.ITermSetBadgeFormat
  iterm_kind (iterm.File f) = kind.ITermFile
  iterm_kind (iterm.UnicodeVersion v) = version_kind v

  abbrev pub prompt_kind : FinalTermSemanticPrompt A → CommandKind
  prompt_kind prompt.FreshLine = kind.PromptFreshLine
  prompt_kind (prompt.FreshLineAndStartPrompt aid cl) = kind.PromptFreshLineAndStartPrompt
  prompt_kind (prompt.MarkEndOfCommandWithFreshLine aid cl) =
      kind.PromptEndOfCommandWithFreshLine
  prompt_kind (prompt.StartPrompt k) = kind.PromptStartPrompt
  prompt_kind prompt.MarkEndOfPromptAndStartOfInputUntilNextMarker =
      kind.PromptStartOfInputUntilNextMarker
  prompt_kind prompt.MarkEndOfPromptAndStartOfInputUntilEndOfLine =
      kind.PromptStartOfInputUntilEndOfLine
  prompt_kind (prompt.MarkEndOfInputAndStartOfOutput aid) = kind.PromptStartOfOutput
  prompt_kind (prompt.CommandStatus s aid) = kind.PromptCommandStatus

  abbrev pub kind_of : OperatingSystemCommand A → CommandKind
  kind_of (command.SetIconNameAndWindowTitle t) = kind.SetIconNameAndWindowTitle
  kind_of (command.SetWindowTitle t) = kind.SetWindowTitle
  kind_of (command.SetWindowTitleSun t) = kind.SetWindowTitleSun
  kind_of (command.SetIconName t) = kind.SetIconName
  kind_of (command.SetIconNameSun t) = kind.SetIconNameSun
  kind_of (command.SetHyperlink h) = kind.SetHyperlink
  kind_of (command.ClearSelection s) = kind.ClearSelection
  kind_of (command.QuerySelection s) = kind.QuerySelection
  kind_of (command.SetSelection s t) = kind.SetSelection
  kind_of (command.SystemNotification t) = kind.SystemNotification
  kind_of (command.ITermProprietary c) = iterm_kind c
  kind_of (command.FinalTermSemanticPrompt p) = prompt_kind p
  kind_of (command.ChangeColorNumber ps) = kind.ChangeColorNumber
  kind_of (command.ChangeDynamicColors n cs) = kind.ChangeDynamicColors
  kind_of (command.ResetDynamicColor n) = kind.ResetDynamicColor
  kind_of (command.CurrentWorkingDirectory t) = kind.CurrentWorkingDirectory
  kind_of (command.ResetColors ns) = kind.ResetColors
  kind_of (command.RxvtExtension ts) = kind.RxvtExtension
  kind_of (command.ConEmuProgress p) = kind.ConEmuProgress
  kind_of (command.Unspecified ps) = kind.Unspecified
