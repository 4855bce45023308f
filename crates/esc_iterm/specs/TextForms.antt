-- The commands that are a keyword and one text.
use Rattle.std.specs.Prelude.{ℕ, List}
use Rattle.esc_iterm.specs.declared.proprietary.ITermProprietary.{ITermProprietary}
use Rattle.esc_iterm.specs.declared.proprietary.ITermProprietary.TheVariants as iterm
use Rattle.esc_iterm.specs.declared.text_form.TextForm.{TextForm}
use Rattle.esc_iterm.specs.declared.text_form.TextForm.TheVariants as form

abbrev pub with_text : {A : Type 0} → TextForm → List ℕ → ITermProprietary A
with_text form.CurrentDir t = iterm.CurrentDir t
with_text form.SetProfile t = iterm.SetProfile t
with_text form.CopyToClipboard t = iterm.CopyToClipboard t
with_text form.Copy t = iterm.Copy t
with_text form.SetBadgeFormat t = iterm.SetBadgeFormat t
