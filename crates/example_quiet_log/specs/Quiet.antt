-- The values that the policy of a quiet log admits.
use Rattle.std.specs.Prelude.{Bool, true, false, not}
use Rattle.esc_sequences.specs.declared.esc.Esc.TheVariants as esc_variant
use Rattle.esc_sequences.specs.declared.esc_code.EscCode.TheVariants as esc_code
use Rattle.esc_osc.specs.declared.command.OperatingSystemCommand.{OperatingSystemCommand}
use Rattle.esc_osc.specs.declared.command.OperatingSystemCommand.TheVariants as command
use Rattle.esc_actions.specs.Values.{Value, print, string, control, esc, csi, osc, kitty, sixel, termcap, short, enter, datum, exit}

-- a command that sets a title or the name of an icon, or shows a notification (codes 0, 1, 2, l, L,
-- 9 and 777)
abbrev pub is_loud : {A : Type 0} → OperatingSystemCommand A → Bool
is_loud (command.SetIconNameAndWindowTitle t) = true
is_loud (command.SetWindowTitle t) = true
is_loud (command.SetWindowTitleSun t) = true
is_loud (command.SetIconName t) = true
is_loud (command.SetIconNameSun t) = true
is_loud (command.SystemNotification t) = true
is_loud (command.RxvtExtension ts) = true
is_loud (command.SetHyperlink l) = false
is_loud (command.ClearSelection s) = false
is_loud (command.QuerySelection s) = false
is_loud (command.SetSelection s t) = false
is_loud (command.ITermProprietary c) = false
is_loud (command.FinalTermSemanticPrompt p) = false
is_loud (command.ChangeColorNumber ps) = false
is_loud (command.ChangeDynamicColors n cs) = false
is_loud (command.ResetDynamicColor n) = false
is_loud (command.CurrentWorkingDirectory t) = false
is_loud (command.ResetColors is) = false
is_loud (command.ConEmuProgress p) = false
is_loud (command.Unspecified ps) = false

-- A value that is admitted: no loud command, no `ESC k`, by which screen and tmux set a title, and
-- no short control and nothing of a mode, which may pass on a title. A string terminator is not:
-- the terminator of a string that passes is written with the string, and that of one that does not
-- goes with it.
abbrev pub keeps : {A : Type 0} → Value A → Bool
keeps (print c) = true
keeps (string t) = true
keeps (control c) = true
keeps (esc (esc_variant.Code esc_code.TmuxTitle)) = false
keeps (esc (esc_variant.Code esc_code.StringTerminator)) = false
keeps (esc e) = true
keeps (csi c) = true
keeps (osc c) = not (is_loud c)
keeps (kitty i) = true
keeps (sixel s) = true
keeps (termcap ns) = true
keeps (short s) = false
keeps (enter e) = false
keeps (datum b) = false
keeps exit = false
