-- The known facts about a policy before it is asked.
use Rattle.std.specs.Prelude.{◌≡◌, Bool, false, true, IsTrue}
use Rattle.esc_sequences.specs.Csis.{CsiValue}
use Rattle.esc_sequences.specs.declared.esc.Esc.{Esc}
use Rattle.esc_osc.specs.declared.command.OperatingSystemCommand.{OperatingSystemCommand}
use Rattle.esc_actions.specs.Values.{Value, csi, esc, osc}
use Rattle.esc_filter.specs.Rules.{is_link, is_rendition, is_text}
use Rattle.esc_filter.specs.declared.known.Known.{Known}

-- nothing is
abbrev pub nothing : Known
nothing = record {
  text = false;
  renditions = false;
  links = false;
  no_functions = false;
  no_commands = false;
  no_escapes = false;
}

-- all text passes
abbrev pub IsPassedText : {A : Type 0} → (Value A → Bool) → Type 0
IsPassedText {A} admits = (v : Value A) → is_text v ≡ true → admits v ≡ true

-- renditions pass
abbrev pub ArePassedRenditions : {A : Type 0} → (Value A → Bool) → Type 0
ArePassedRenditions admits = (c : CsiValue) → is_rendition c ≡ true → admits (csi c) ≡ true

-- links do
abbrev pub ArePassedLinks : {A : Type 0} → (Value A → Bool) → Type 0
ArePassedLinks {A} admits = (c : OperatingSystemCommand A) → is_link c ≡ true
    → admits (osc c) ≡ true

-- The known facts k about a policy that admits these values: for a kind of values, that
pub record IsKnown {A : Type 0} (admits : Value A → Bool) (k : Known) : Type 0 where
  -- all pass
  pub text : IsTrue k.text → (v : Value A) → is_text v ≡ true → admits v ≡ true
  pub renditions : IsTrue k.renditions → (c : CsiValue) → is_rendition c ≡ true
      → admits (csi c) ≡ true
  pub links : IsTrue k.links → (c : OperatingSystemCommand A) → is_link c ≡ true
      → admits (osc c) ≡ true
  -- none passes
  pub no_functions : IsTrue k.no_functions → (c : CsiValue) → is_rendition c ≡ false
      → admits (csi c) ≡ false
  pub no_commands : IsTrue k.no_commands → (c : OperatingSystemCommand A) → is_link c ≡ false
      → admits (osc c) ≡ false
  pub no_escapes : IsTrue k.no_escapes → (e : Esc) → admits (esc e) ≡ false
