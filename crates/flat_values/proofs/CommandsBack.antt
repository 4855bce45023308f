-- Commands are read back from their rows.
use Rattle.std.proofs.Common.{ℕ, ◌≡◌, ◌↔◌, Bool, true, false, IsTrue, List, ◌++◌, Option, Some, None, Result, Ok, Err, IfOk, refl, sym, subst, ap, map, ◌∙◌}
use Rattle.std.proofs.lemmas.Bool.{true≢false}
use Rattle.std.proofs.lemmas.Option.{none-some}
use Rattle.std.specs.Prelude.{◌^◌}
use Rattle.esc_iterm.specs.declared.proprietary.ITermProprietary.{ITermProprietary}
use Rattle.esc_iterm.specs.declared.proprietary.ITermProprietary.TheVariants as iterm
use Rattle.esc_iterm.specs.declared.unicode_version.ITermUnicodeVersionOp.TheVariants as version
use Rattle.esc_prompts.specs.declared.click.FinalTermClick.{FinalTermClick}
use Rattle.esc_prompts.specs.declared.click.FinalTermClick.TheVariants as click
use Rattle.esc_prompts.specs.declared.prompt.FinalTermSemanticPrompt.{FinalTermSemanticPrompt}
use Rattle.esc_prompts.specs.declared.prompt.FinalTermSemanticPrompt.TheVariants as prompt
use Rattle.esc_prompts.specs.declared.prompt_kind.FinalTermPromptKind.{FinalTermPromptKind}
use Rattle.esc_prompts.specs.declared.prompt_kind.FinalTermPromptKind.TheVariants as prompt_kind
use Rattle.esc_osc.specs.declared.command.OperatingSystemCommand.{OperatingSystemCommand}
use Rattle.esc_osc.specs.declared.command.OperatingSystemCommand.TheVariants as command
use Rattle.flat_values.proofs.FilesBack.{file_back}
use Rattle.flat_values.proofs.ItemsBack.{colors_back, dynamic_back, link_back, pairs_back, progress_back}
use Rattle.flat_values.proofs.Tables.{rows_say}
use Rattle.flat_values.proofs.ValuesBack.{Fits, flag_back, held_fits, numbers_back, parts_back, texts_back}
use Rattle.flat_values.specs.Commands.{fields_of}
use Rattle.flat_values.specs.Fields.{Table, named_values, table_values}
use Rattle.flat_values.specs.FoundCommands.{command_in, form_at}
use Rattle.flat_values.specs.FoundItems.{nothing}
use Rattle.flat_values.specs.FoundPrompts.{click_in, click_of, prompt_kind_of, scale_in, text_in}
use Rattle.flat_values.specs.Found.{Reading, held_form as held_reading, value_if_kept, past}
use Rattle.flat_values.specs.Held.{AreWithin, Bounds, Has, IsHeld, iterm_parts, parts_of, prompt_parts, scale_parts, text_parts, types}
use Rattle.flat_values.specs.Kinds.{iterm_kind, kind_number, kind_of, prompt_kind as kind_of_prompt}
use Rattle.flat_values.specs.Prompts.{aid_fields, click_fields, click_number, kind_number as prompt_number, prompt_fields}
use Rattle.flat_values.specs.Proprietary.{iterm_fields, scale_fields, text_fields}
use Rattle.flat_values.specs.declared.command_kind.CommandKind.{CommandKind}
use Rattle.flat_values.specs.declared.field_name.FieldName.TheVariants as name
use Rattle.flat_values.specs.declared.kinds.Form.{Form}

-- clicks and kinds of prompts
click_back : (c : FinalTermClick) → click_of (click_number c) ≡ c
click_back click.Line = refl
click_back c = refl

prompt_kind_back : (k : FinalTermPromptKind) → prompt_kind_of (prompt_number k) ≡ k
prompt_kind_back prompt_kind.Initial = refl
prompt_kind_back k = refl

-- a click that may be absent after the name of the application, which may be absent too
click_after : (a : Option (List ℕ)) (c : Option FinalTermClick)
    → click_in (past name.Application (map named_values (aid_fields a ++ click_fields c))) ≡ c
click_after None None = refl
click_after None (Some c) = ap Some (click_back c)
click_after (Some t) None = refl
click_after (Some t) (Some c) = ap Some (click_back c)

-- how the command of a kind is read
abbrev pub form_of : CommandKind → Form
form_of k = form_at (kind_number k)

module _ (r : Reading) (b : Bounds) (f : Fits r b) where
  -- the name of the application and the click read back, and each may be absent
  aid_back : (a : Option (List ℕ)) (c : Option FinalTermClick) → AreWithin b (text_parts a)
      → text_in r name.Application (map named_values (aid_fields a ++ click_fields c)) ≡ a
  aid_back None None held = refl
  aid_back None (Some c) held = refl
  aid_back (Some t) c held = ap Some (f.text t held.0)

  lone_back : (a : Option (List ℕ)) → AreWithin b (text_parts a)
      → text_in r name.Application (map named_values (aid_fields a)) ≡ a
  lone_back None held = refl
  lone_back (Some t) held = ap Some (f.text t held.0)

  -- a label and a scale that may be absent
  label_back : (o : Option (List ℕ)) → AreWithin b (text_parts o)
      → text_in r name.Label (map named_values (text_fields name.Label o)) ≡ o
  label_back None held = refl
  label_back (Some t) held = ap Some (f.text t held.0)

  scale_back : (o : Option ℕ) → AreWithin b (scale_parts o)
      → scale_in r (map named_values (scale_fields o)) ≡ o
  scale_back None held = refl
  scale_back (Some s) held = ap Some (f.number (2 ^ 32) s held.0)

  -- a prompt of its kind
  prompts_back : {A : Type 0} (p : FinalTermSemanticPrompt A) → AreWithin b (prompt_parts p)
      → command_in r (form_of (kind_of_prompt p)) (map named_values (prompt_fields p))
      ≡ command.FinalTermSemanticPrompt p
  prompts_back prompt.FreshLine held = refl
  prompts_back (prompt.FreshLineAndStartPrompt a c) held =
      λ i. command.FinalTermSemanticPrompt
      (prompt.FreshLineAndStartPrompt (aid_back a c held i) (click_after a c i))
  prompts_back (prompt.MarkEndOfCommandWithFreshLine a c) held =
      λ i. command.FinalTermSemanticPrompt
      (prompt.MarkEndOfCommandWithFreshLine (aid_back a c held i) (click_after a c i))
  prompts_back (prompt.StartPrompt k) held =
      ap (λ p. command.FinalTermSemanticPrompt (prompt.StartPrompt p)) (prompt_kind_back k)
  prompts_back prompt.MarkEndOfPromptAndStartOfInputUntilNextMarker held = refl
  prompts_back prompt.MarkEndOfPromptAndStartOfInputUntilEndOfLine held = refl
  prompts_back (prompt.MarkEndOfInputAndStartOfOutput a) held =
      ap (λ o. command.FinalTermSemanticPrompt (prompt.MarkEndOfInputAndStartOfOutput o))
      (lone_back a held)
  prompts_back (prompt.CommandStatus s a) held =
      let status_is = f.signed s held.0 in
      let aid_is = lone_back a held.1 in
      λ i. command.FinalTermSemanticPrompt (prompt.CommandStatus (status_is i) (aid_is i))

  -- a command of iTerm2 of its kind
  iterms_back : {A : Type 0} (c : ITermProprietary A) → AreWithin b (iterm_parts c)
      → command_in r (form_of (iterm_kind c)) (map named_values (iterm_fields c))
      ≡ command.ITermProprietary c
  iterms_back iterm.SetMark held = refl
  iterms_back iterm.StealFocus held = refl
  iterms_back iterm.ClearScrollback held = refl
  iterms_back (iterm.CurrentDir t) held =
      ap (λ x. command.ITermProprietary (iterm.CurrentDir x)) (f.text t held.0)
  iterms_back (iterm.SetProfile t) held =
      ap (λ x. command.ITermProprietary (iterm.SetProfile x)) (f.text t held.0)
  iterms_back (iterm.CopyToClipboard t) held =
      ap (λ x. command.ITermProprietary (iterm.CopyToClipboard x)) (f.text t held.0)
  iterms_back iterm.EndCopy held = refl
  iterms_back (iterm.HighlightCursorLine b) held =
      ap (λ x. command.ITermProprietary (iterm.HighlightCursorLine x)) (flag_back b)
  iterms_back iterm.RequestCellSize held = refl
  iterms_back (iterm.ReportCellSize h w s) held =
      let height_is = f.number (2 ^ 32) h held.0 in
      let width_is = f.number (2 ^ 32) w held.1.0 in
      let scale_is = scale_back s held.1.1 in
      λ i. command.ITermProprietary (iterm.ReportCellSize (height_is i) (width_is i) (scale_is i))
  iterms_back (iterm.Copy t) held =
      ap (λ x. command.ITermProprietary (iterm.Copy x)) (f.text t held.0)
  iterms_back (iterm.ReportVariable t) held =
      ap (λ x. command.ITermProprietary (iterm.ReportVariable x)) (f.text t held.0)
  iterms_back (iterm.SetUserVar n t) held =
      let name_is = f.text n held.0 in
      let value_is = f.text t held.1.0 in
      λ i. command.ITermProprietary (iterm.SetUserVar (name_is i) (value_is i))
  iterms_back (iterm.SetBadgeFormat t) held =
      ap (λ x. command.ITermProprietary (iterm.SetBadgeFormat x)) (f.text t held.0)
  iterms_back (iterm.File x) held =
      ap (λ y. command.ITermProprietary (iterm.File y)) (file_back r b f x held)
  iterms_back (iterm.UnicodeVersion (version.Set n)) held =
      ap (λ x. command.ITermProprietary (iterm.UnicodeVersion (version.Set x)))
      (f.number (2 ^ 8) n held.0)
  iterms_back (iterm.UnicodeVersion (version.Push l)) held =
      ap (λ x. command.ITermProprietary (iterm.UnicodeVersion (version.Push x)))
      (label_back l held)
  iterms_back (iterm.UnicodeVersion (version.Pop l)) held =
      ap (λ x. command.ITermProprietary (iterm.UnicodeVersion (version.Pop x)))
      (label_back l held)

  pub command_back : {A : Type 0} (c : OperatingSystemCommand A) → AreWithin b (parts_of c)
      → command_in r (form_of (kind_of c)) (map named_values (fields_of c)) ≡ c
  command_back (command.SetIconNameAndWindowTitle t) held =
      ap command.SetIconNameAndWindowTitle (f.text t held.0)
  command_back (command.SetWindowTitle t) held = ap command.SetWindowTitle (f.text t held.0)
  command_back (command.SetWindowTitleSun t) held = ap command.SetWindowTitleSun (f.text t held.0)
  command_back (command.SetIconName t) held = ap command.SetIconName (f.text t held.0)
  command_back (command.SetIconNameSun t) held = ap command.SetIconNameSun (f.text t held.0)
  command_back (command.SetHyperlink h) held = ap command.SetHyperlink (link_back r b f h held)
  command_back (command.ClearSelection s) held =
      ap (λ n. command.ClearSelection (record { 0 = n })) (f.number (2 ^ 16) s.0 held.0)
  command_back (command.QuerySelection s) held =
      ap (λ n. command.QuerySelection (record { 0 = n })) (f.number (2 ^ 16) s.0 held.0)
  command_back (command.SetSelection s t) held =
      let bits_are = f.number (2 ^ 16) s.0 held.0 in
      let text_are = f.text t held.1.0 in
      λ i. command.SetSelection (record { 0 = bits_are i }) (text_are i)
  command_back (command.SystemNotification t) held = ap command.SystemNotification (f.text t held.0)
  command_back (command.ITermProprietary c) held = iterms_back c held
  command_back (command.FinalTermSemanticPrompt p) held = prompts_back p held
  command_back (command.ChangeColorNumber ps) held =
      ap command.ChangeColorNumber (pairs_back r b f ps held nothing)
  command_back (command.ChangeDynamicColors n cs) held =
      let colors_are = colors_back r b f cs held nothing in
      λ i. command.ChangeDynamicColors (dynamic_back n i) (colors_are i)
  command_back (command.ResetDynamicColor n) held = ap command.ResetDynamicColor (dynamic_back n)
  command_back (command.CurrentWorkingDirectory t) held =
      ap command.CurrentWorkingDirectory (f.text t held.0)
  command_back (command.ResetColors ns) held = ap command.ResetColors (numbers_back r b f ns held)
  command_back (command.RxvtExtension ts) held = ap command.RxvtExtension (texts_back r b f ts held)
  command_back (command.ConEmuProgress p) held = ap command.ConEmuProgress
      (progress_back r b f p held)
  command_back (command.Unspecified ps) held = ap command.Unspecified (parts_back ps)

module _ {A : Type 0} where
  -- a kind and rows say the command that has them
  pub found : (k : ℕ) (t : Table) (c : OperatingSystemCommand A) → IsHeld c → Has k t c
      → command_in held_reading (form_at k) (table_values t) ≡ c
  found k t c is_held has =
      let kind_is = ap form_at (sym has.0) in
      let rows_are = ap table_values (sym has.1) ∙ rows_say (fields_of c) in
      (λ i. command_in held_reading (kind_is i) (rows_are i))
      ∙ command_back held_reading types held_fits c is_held

  -- where none is kept, none has them
  none_kept : {E : Type 0} (k : ℕ) (t : Table) (c : OperatingSystemCommand A) (has : Result Bool E)
      → c ≡ command_in held_reading (form_at k) (table_values t)
      → IfOk has (λ b. IsTrue b ↔ Has k t c)
      → IfOk (value_if_kept c has) (λ o. o ≡ None → (d : OperatingSystemCommand A) → IsHeld d
      → Has k t d
      → ⊥)
  none_kept k t c (Err e) is told = tt
  none_kept k t c (Ok true) is told = λ none d is_held it. absurd (none-some c (sym none))
  none_kept k t c (Ok false) is told = λ none d is_held it.
      let same : c ≡ d = is ∙ found k t d is_held it in
      true≢false (sym (told.1 (subst (λ x. Has k t x) (sym same) it)))

  pub none_found : {E : Type 0} (k : ℕ) (t : Table) (c : OperatingSystemCommand A)
      (has : Result Bool E) (result : Result (Option (OperatingSystemCommand A)) E)
      → c ≡ command_in held_reading (form_at k) (table_values t)
      → IfOk has (λ b. IsTrue b ↔ Has k t c)
      → result ≡ value_if_kept c has
      → IfOk result (λ o. o ≡ None → (d : OperatingSystemCommand A) → IsHeld d → Has k t d → ⊥)
  none_found k t c has result is told result_is =
      subst (λ r. IfOk r (λ o. o ≡ None → (d : OperatingSystemCommand A) → IsHeld d → Has k t d
      → ⊥)) (sym result_is) (none_kept k t c has is told)
