-- Links, prompts and commands of iTerm2, by the laws of the crates that read and write them.
use Rattle.std.proofs.Common.{ℕ, ◌≡◌, List, [], ◌∷◌, Option, Some, sym, ap, ◌∙◌}
use Rattle.std.specs.Option.{option_map, unwrap_or}
use Rattle.esc_values.specs.Clear.{IsClearText, IsClearPart, AreClearParts, parts_of}
use Rattle.esc_links.specs.Hyperlinks.{link_of, link_text}
use Rattle.esc_links.specs.declared.hyperlink.Hyperlink.{Hyperlink}
use Rattle.esc_links.proofs.LinksBack.{link_back, link_parts}
use Rattle.esc_values.proofs.Clear.SplitAndJoined.{text_parts}
use Rattle.esc_values.proofs.Numbers.FactsIfSome.{Where, where_from, where_map}
use Rattle.esc_iterm.specs.ITerms.{iterm_of}
use Rattle.esc_iterm.specs.WritableITerms.{IsWritableITerm}
use Rattle.esc_iterm.specs.declared.proprietary.ITermProprietary.{ITermProprietary}
use Rattle.esc_iterm.proofs.ITermsBack as iterms_back
use Rattle.esc_iterm.proofs.ITermsClear as iterms_clear
use Rattle.esc_prompts.specs.Prompts.{prompt_of, IsWritablePrompt}
use Rattle.esc_prompts.specs.declared.prompt.FinalTermSemanticPrompt.{FinalTermSemanticPrompt}
use Rattle.esc_prompts.proofs.ClearArgs as prompts_clear
use Rattle.esc_prompts.proofs.ReadsBack as prompts_back
use Rattle.esc_osc.proofs.Written.{Written, code_means}
use Rattle.esc_osc_values.specs.Codes.{code_text}
use Rattle.esc_osc.specs.Reading.{meaning}
use Rattle.esc_osc.specs.Writable.{IsWritable}
use Rattle.esc_osc_values.specs.declared.code.OperatingSystemCommandCode.TheVariants as code
use Rattle.esc_osc.specs.declared.command.OperatingSystemCommand.{OperatingSystemCommand}
use Rattle.esc_osc.specs.declared.command.OperatingSystemCommand.TheVariants as command

-- a writable command
abbrev pub Good : (A : Type 0) → OperatingSystemCommand A → Type 0
Good A c = IsWritable {A = A} c

-- prompts
pub prompted : (A : Type 0) (p : FinalTermSemanticPrompt A) → IsWritablePrompt p
    → Written A (command.FinalTermSemanticPrompt p)
prompted A p h = let w = prompts_back.writes_back p h in record {
  code = code.FinalTermSemanticPrompt;
  args = w.0;
  text = w.1;
  clear = w.2;
  reads = ap (option_map command.FinalTermSemanticPrompt) w.3;
}

pub prompt_good : (A : Type 0) (args : List (List ℕ)) → AreClearParts args
    → Where (Good A) (option_map command.FinalTermSemanticPrompt (prompt_of args))
prompt_good A args k =
    where_map (λ (p : FinalTermSemanticPrompt A). IsWritablePrompt p) (Good A)
    command.FinalTermSemanticPrompt (λ p w. w) (prompt_of args)
    (where_from (λ (p : FinalTermSemanticPrompt A). IsWritablePrompt p) (prompt_of args)
    (prompts_clear.clear_is_writable args k))

-- commands of iTerm2
pub proprietary : (A : Type 0) (c : ITermProprietary A) → IsWritableITerm c
    → Written A (command.ITermProprietary c)
proprietary A c h = let w = iterms_back.writes_back c h in record {
  code = code.ITermProprietary;
  args = w.0;
  text = w.1;
  clear = w.2;
  reads = ap (option_map command.ITermProprietary) w.3;
}

pub iterm_good : (A : Type 0) (args : List (List ℕ)) → AreClearParts args
    → Where (Good A) (option_map command.ITermProprietary (iterm_of args))
iterm_good A args k =
    where_map (λ (c : ITermProprietary A). IsWritableITerm c) (Good A) command.ITermProprietary
    (λ c w. w) (iterm_of args)
    (where_from (λ (c : ITermProprietary A). IsWritableITerm c) (iterm_of args)
    (iterms_clear.clear_is_writable args k))

-- links
link_means : (A : Type 0) (v : Option (Hyperlink A)) (args : List (List ℕ))
    → parts_of (link_text v) ≡ code_text code.SetHyperlink ∷ args
    → link_of (parts_of (link_text v)) ≡ Some v
    → meaning (parts_of (link_text v)) ≡ command.SetHyperlink v
link_means A v args is reads =
    let back : link_of (code_text code.SetHyperlink ∷ args) ≡ Some v =
    ap link_of (sym is) ∙ reads in
    ap (meaning {A = A}) is
    ∙ ap (λ r. unwrap_or r (command.Unspecified (code_text code.SetHyperlink ∷ args)))
    (code_means code.SetHyperlink args ∙ ap (option_map command.SetHyperlink) back)

pub linked : (A : Type 0) (v : Option (Hyperlink A)) → IsClearText (link_text v)
    → link_of (parts_of (link_text v)) ≡ Some v
    → meaning (parts_of (link_text v)) ≡ command.SetHyperlink v
linked A v clear reads =
    let p = link_parts (parts_of (link_text v)) (text_parts (link_text v) clear) v reads in
    link_means A v (p.0 ∷ p.1 ∷ []) p.3 reads

pub link_good : (A : Type 0) (t : List ℕ) (args : List (List ℕ)) → IsClearPart t
    → AreClearParts args
    → Where (Good A) (option_map command.SetHyperlink (link_of (t ∷ args)))
link_good A t [] h k = tt
link_good A t (a ∷ more) h k =
    let IsGood : Option (Hyperlink A) → Type 0 = λ v. Good A (command.SetHyperlink v) in
    where_map IsGood (Good A) command.SetHyperlink (λ v w. w) (link_of (t ∷ a ∷ more))
    (where_from IsGood (link_of (t ∷ a ∷ more)) (link_back (t ∷ a ∷ more) ((h, k), λ e. cc)))
