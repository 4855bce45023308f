-- The commands that are a code and one text.
use Rattle.std.specs.Prelude.{ℕ, List}
use Rattle.esc_osc.specs.declared.command.OperatingSystemCommand.{OperatingSystemCommand}
use Rattle.esc_osc.specs.declared.command.OperatingSystemCommand.TheVariants as command
use Rattle.esc_osc.specs.declared.text_form.TextForm.{TextForm}
use Rattle.esc_osc.specs.declared.text_form.TextForm.TheVariants as form

abbrev pub with_text : {A : Type 0} → TextForm → List ℕ → OperatingSystemCommand A
with_text form.IconNameAndWindowTitle t = command.SetIconNameAndWindowTitle t
with_text form.WindowTitle t = command.SetWindowTitle t
with_text form.WindowTitleSun t = command.SetWindowTitleSun t
with_text form.IconName t = command.SetIconName t
with_text form.IconNameSun t = command.SetIconNameSun t
with_text form.SystemNotification t = command.SystemNotification t
with_text form.CurrentWorkingDirectory t = command.CurrentWorkingDirectory t
