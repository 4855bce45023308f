-- The known decisions of a policy.
use Rattle.std.proofs.Common.{◌≡◌, ℕ, Bool, true, false, ◌==◌, List, refl}
use Rattle.std.specs.Prelude.{IsTrue}
use Rattle.std.specs.List.{list_all, list_any}
use Rattle.esc_sequences.specs.Csis.{csi_of, sgr, unspecified}
use Rattle.esc_values.specs.declared.csi_param.CsiParam.{CsiParam}
use Rattle.esc_actions.specs.Values.{Value, csi}
use Rattle.esc_filter.specs.Known.{ArePassedRenditions, IsKnown, nothing}
use Rattle.esc_filter.specs.Rules.{is_plain_param, is_rendition}
use Rattle.esc_filter.specs.declared.known.Known.{Known}
use Rattle.esc_filter.proofs.Renditions.SequencesFromParameters.{each_of, nameless}

pub nothing_known : {A : Type 0} (admits : Value A → Bool) → IsKnown admits nothing
nothing_known admits = record {
  text = λ h. absurd cc;
  renditions = λ h. absurd cc;
  links = λ h. absurd cc;
  no_functions = λ h. absurd cc;
  no_commands = λ h. absurd cc;
  no_escapes = λ h. absurd cc;
}

module _ {A : Type 0} (admits : Value A → Bool) (k : Known) (known : IsKnown admits k) where
  -- if nothing but renditions passes, no other sequence does
  pub functions_stay : IsTrue k.no_functions → (es : List CsiParam) (f : ℕ) → (f == 0x6d) ≡ false
      → list_any (λ c. admits (csi c)) (csi_of es false f) ≡ false
  functions_stay none es f other =
      let plain : is_rendition (unspecified es false f) ≡ false = rw other refl in
      let stays : admits (csi (unspecified es false f)) ≡ false =
      known.no_functions none (unspecified es false f) plain in
      rw (nameless es f other) (rw stays refl)

-- if all renditions pass, these do
pub renditions_pass : {A : Type 0} (admits : Value A → Bool) (es : List CsiParam)
    → ArePassedRenditions admits → list_all is_plain_param es ≡ true
    → list_all (λ c. admits (csi c)) (csi_of es false 0x6d) ≡ true
renditions_pass admits es pass plain =
    each_of (λ c. admits (csi c)) (λ s. pass (sgr s) refl) es 0x6d
    (pass (unspecified es false 0x6d) (rw plain refl))
