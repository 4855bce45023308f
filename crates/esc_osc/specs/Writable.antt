-- Which commands read back from their text.
use Rattle.std.specs.Prelude.{◌≡◌, Some}
use Rattle.std.specs.Str.{IsUtf8}
use Rattle.esc_values.specs.Clear.{IsClearText, IsClearPart, AreClearParts, AreTextParts, parts_of}
use Rattle.esc_links.specs.Hyperlinks.{link_of, link_text}
use Rattle.esc_iterm.specs.WritableITerms.{IsWritableITerm}
use Rattle.esc_prompts.specs.Prompts.{IsWritablePrompt}
use Rattle.esc_osc_values.specs.WritableValues.{AreNumbers, AreColors, ArePairs, IsNamed, IsProgress}
use Rattle.esc_osc.specs.Reading.{meaning}
use Rattle.esc_osc.specs.declared.command.OperatingSystemCommand.{OperatingSystemCommand}
use Rattle.esc_osc.specs.declared.command.OperatingSystemCommand.TheVariants as command

-- a title of clear characters, other texts without `;`; a link whose text is clear and reads as the
-- link; a selection of named bits, at least one, with any text; a percentage to 100; any colours
-- and numbers, which have 16 and 8 bits; a writable prompt or command of iTerm2; or clear parts,
-- not one empty part, that mean no other command
abbrev pub IsWritable : {A : Type 0} → OperatingSystemCommand A → Type 0
IsWritable (command.SetIconNameAndWindowTitle t) = IsClearText t
IsWritable (command.SetWindowTitle t) = IsClearText t
IsWritable (command.SetWindowTitleSun t) = IsClearPart t
IsWritable (command.SetIconName t) = IsClearText t
IsWritable (command.SetIconNameSun t) = IsClearPart t
IsWritable (command.SetHyperlink h) = IsClearText (link_text h)
    × (link_of (parts_of (link_text h)) ≡ Some h)
IsWritable (command.ClearSelection s) = IsNamed s.0
IsWritable (command.QuerySelection s) = IsNamed s.0
IsWritable (command.SetSelection s t) = IsNamed s.0 × IsUtf8 t
IsWritable (command.SystemNotification t) = IsClearPart t
IsWritable (command.ITermProprietary c) = IsWritableITerm c
IsWritable (command.FinalTermSemanticPrompt p) = IsWritablePrompt p
IsWritable (command.ChangeColorNumber ps) = ArePairs ps
IsWritable (command.ChangeDynamicColors n cs) = AreColors cs
IsWritable (command.ResetDynamicColor n) = Unit {0}
IsWritable (command.CurrentWorkingDirectory t) = IsClearPart t
IsWritable (command.ResetColors ns) = AreNumbers ns
IsWritable (command.RxvtExtension ts) = AreClearParts ts
IsWritable (command.ConEmuProgress p) = IsProgress p
IsWritable {A = A} (command.Unspecified ps) = AreTextParts ps
    × (meaning {A = A} ps ≡ command.Unspecified ps)
