-- The values that choices of groups admit.
use Rattle.std.proofs.Common.{ℕ, ◌≡◌, Bool, true, false, ◌&&◌, if◌then◌else◌, List, Option, None, Some, refl, sym, ap, ◌∙◌}
use Rattle.std.specs.Borrow.{Bor}
use Rattle.std.specs.List.{list_all}
use Rattle.std.proofs.lemmas.Bool.{and_parts, true≢false}
use Rattle.control_functions.specs.Functions.{function_of, sequence_key}
use Rattle.esc_sequences.specs.Csis.{CsiValue, sgr, unspecified}
use Rattle.esc_osc.specs.declared.command.OperatingSystemCommand.{OperatingSystemCommand}
use Rattle.esc_osc.specs.declared.command.OperatingSystemCommand.TheVariants as command
use Rattle.esc_actions.specs.ControlCodes.{code_number}
use Rattle.esc_actions.specs.Values.{print, string, control, csi, osc}
use Rattle.esc_filter.specs.Addresses.{address_in, has_parts}
use Rattle.esc_filter.specs.Concealed.{conceals}
use Rattle.esc_filter.specs.Groups.{admits_groups, groups_of, has, of_command, of_named, of_rendition, of_sequence, shows}
use Rattle.esc_filter.specs.Known.{IsPassedText}
use Rattle.esc_filter.specs.Tokens.{AdmitsAtMost}
use Rattle.esc_filter.specs.Rules.{is_clean_part, is_layout, is_link, is_rendition, is_shown}
use Rattle.esc_filter.specs.Schemes.{leads, link_leads}
use Rattle.esc_filter.specs.declared.group.Group.{Group}
use Rattle.esc_filter.specs.declared.group.Group.TheVariants as group
use Rattle.esc_filter.specs.declared.groups.Groups.{Groups}
use Rattle.esc_filter.specs.declared.policy.Policy.TheVariants as policy
use Rattle.esc_filter.proofs.Admission.GroupsAreThePolicy.{at_most}
use Rattle.esc_idempotent.proofs.Tints.{tints_close}
use Rattle.esc_idempotent.specs.Again.{AdmitsItsClosing, AdmitsResets}

-- ---- renditions and links

module _ (g : Groups) (hidden : has g group.Hidden ≡ true → has g group.Sgr ≡ true) where
  shade_has : (t : Bool) → has g (if t then group.Hidden else group.Sgr) ≡ true
      → has g group.Sgr ≡ true
  shade_has true h = hidden h
  shade_has false h = h

  reset_has : (c : CsiValue) → is_rendition c ≡ true → has g (of_sequence c) ≡ true
      → has g group.Sgr ≡ true
  reset_has (sgr s) r h = h
  reset_has (unspecified es more f) r h =
      shade_has (conceals es)
      (sym (ap (λ b. has g (if b then of_rendition es
      else of_named (function_of (sequence_key es f)) es)) r) ∙ h)

end_leads : (A : Type 0) (o : Option (Bor (List ℕ)))
    → link_leads {A = A} o (command.SetHyperlink None) ≡ true
end_leads A None = refl
end_leads A (Some schemes) = refl

link_has : {A : Type 0} (g : Groups) (c : OperatingSystemCommand A) → is_link c ≡ true
    → has g (of_command c) ≡ true → has g group.Links ≡ true
link_has g (command.SetHyperlink l) e h = h
link_has g (command.Unspecified ps) e h =
    let k = and_parts (has_parts (address_in ps)) (list_all is_clean_part ps) e in
    sym (ap (λ b. has g (if b then group.Links else group.Other)) k.0) ∙ h
link_has g _ e h = absurd (true≢false (sym e))

module _ {A : Type 0} (g : Groups)
    (some : (c : Group) → has g c ≡ true → has (groups_of policy.Color) c ≡ true)
    (hidden : has g group.Hidden ≡ true → has g group.Sgr ≡ true) where
  most : AdmitsAtMost {A = A} policy.Color (admits_groups g)
  most = at_most policy.Color g some

  link_reset : (c : OperatingSystemCommand A) → admits_groups g (osc c) ≡ true
      → admits_groups {A = A} g (osc (command.SetHyperlink None)) ≡ true
  link_reset c h =
      let q = and_parts (link_leads g.schemes c)
      (shows {A = A} (has g group.Other) (osc c) && has g (of_command c)) h in
      let r = and_parts (shows {A = A} (has g group.Other) (osc c)) (has g (of_command c)) q.1 in
      rw (end_leads A g.schemes, link_has g c (most (osc c) h) r.1) refl

  resets : AdmitsResets {A = A} (admits_groups g)
  resets = (
    λ c h. reset_has g hidden c (most (csi c) h)
        (and_parts (leads {A = A} g.schemes (csi c)) (has g (of_sequence c)) h).1,
    link_reset,
  )

  pub choice_closes : AdmitsItsClosing {A = A} (admits_groups g)
  choice_closes = tints_close (admits_groups g) most resets

-- ---- text

module _ (g : Groups) (characters : has g group.Characters ≡ true)
    (layout : has g group.Layout ≡ true) where
  either : (t : Bool) (x : Group) → t ≡ true
      → has g (if t then group.Characters else x) ≡ true
  either true x h = characters
  either false x h = absurd (true≢false (sym h))

  laid_out : (t : Bool) (x : Group) → t ≡ true → has g (if t then group.Layout else x) ≡ true
  laid_out true x h = layout
  laid_out false x h = absurd (true≢false (sym h))

pub choice_texts : {A : Type 0} (g : Groups) → has g group.Characters ≡ true
    → has g group.Layout ≡ true → IsPassedText {A = A} (admits_groups g)
choice_texts g k l (print c) h = either g k l (is_shown c) group.Other h
choice_texts g k l (string t) h = either g k l (list_all is_shown t) group.Other h
choice_texts g k l (control c) h = laid_out g k l (is_layout (code_number c)) _ h
choice_texts g k l _ h = absurd (true≢false (sym h))
