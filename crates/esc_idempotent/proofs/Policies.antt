-- The policies admit text, and the values that undo the changes that admitted values leave.
use Rattle.std.proofs.Common.{◌≡◌, pos, Bool, true, false, List, [], ◌∷◌, None, refl, sym, ap, ◌∙◌}
use Rattle.std.specs.List.{list_all}
use Rattle.esc_sequences.specs.Csis.{sgr, unspecified}
use Rattle.esc_sequences.specs.declared.sgr.Sgr.TheVariants.{Reset}
use Rattle.esc_osc.specs.declared.command.OperatingSystemCommand.TheVariants as command
use Rattle.esc_values.specs.declared.csi_param.CsiParam.TheVariants.{Integer}
use Rattle.control_functions.specs.Controls as controls
use Rattle.control_functions.specs.Effects.{changes_screen}
use Rattle.control_functions.specs.EscapeEffects.{changes_screen as escape_changes_screen}
use Rattle.control_functions.specs.Escapes as escapes
use Rattle.control_functions.specs.Functions.{function_of, rows_of}
use Rattle.control_functions.specs.Modes as modes
use Rattle.control_functions.specs.PrivateModes as private_modes
use Rattle.esc_actions.specs.Values.{Value, control, csi, osc}
use Rattle.esc_actions.specs.declared.control_code.ControlCode.TheVariants.{ShiftIn}
use Rattle.esc_filter.specs.Closing.{after_values, ascii_in, closing, escape, keeps_cursor, private_mode}
use Rattle.esc_filter.specs.Known.{IsPassedText}
use Rattle.esc_filter.specs.Rules.{admits, changes_with, escape_changes_with}
use Rattle.esc_filter.specs.Terminal.{as_at_start}
use Rattle.esc_filter.specs.declared.policy.Policy.{Policy}
use Rattle.esc_filter.specs.declared.policy.Policy.TheVariants as policy
use Rattle.esc_filter.proofs.Output.RunsOfText.{text_passes}
use Rattle.esc_idempotent.proofs.Given.{OfEach, back_all}
use Rattle.esc_idempotent.proofs.Tints.{text_closes, tints_close}
use Rattle.esc_idempotent.specs.Again.{AdmitsAs, AdmitsItsClosing}

module _ (A : Type 0) where
  -- the policy for the screen admits this value
  abbrev IsOn : Value A → Type 0
  IsOn v = admits policy.Screen v ≡ true

  reset_on : IsOn (private_mode 47 0x6c) × IsOn (private_mode 1047 0x6c)
      × IsOn (private_mode 1049 0x6c) × IsOn (private_mode 69 0x6c) × IsOn (private_mode 6 0x6c)
      × IsOn (private_mode 5 0x6c) × IsOn (private_mode 2026 0x6c)
  unfolding function_of rows_of changes_with private_modes.mode_of private_modes.changes_screen
  reset_on = (refl, refl, refl, refl, refl, refl, refl)

  set_on : IsOn (private_mode 25 0x68) × IsOn (private_mode 7 0x68) × IsOn (private_mode 1048 0x68)
  unfolding function_of rows_of changes_with private_modes.mode_of private_modes.changes_screen
  set_on = (refl, refl, refl)

  insert_on : IsOn (csi (unspecified (Integer (pos 4) ∷ []) false 0x6c))
  unfolding function_of rows_of changes_with modes.mode_of modes.changes_screen
  insert_on = refl

  margins_on : IsOn (csi (unspecified [] false 0x72))
  unfolding function_of rows_of changes_with changes_screen
  margins_on = refl

  shift_on : IsOn (control ShiftIn)
  unfolding controls.control_of controls.changes_screen
  shift_on = refl

  sets_on : IsOn (ascii_in 0x28) × IsOn (ascii_in 0x29) × IsOn (ascii_in 0x2a)
      × IsOn (ascii_in 0x2b)
  unfolding escapes.function_of escapes.rows_of escape_changes_with
  sets_on = (refl, refl, refl, refl)

  cursor_on : IsOn (escape None 0x37) × IsOn (escape None 0x38)
  unfolding escapes.function_of escapes.rows_of escape_changes_with escape_changes_screen
  cursor_on = (refl, refl)

  screen_each : OfEach (admits {A = A} policy.Screen)
  screen_each = record {
    main = (reset_on.0, reset_on.1, reset_on.2);
    sides = reset_on.3;
    origin = reset_on.4;
    insert = insert_on;
    hidden = set_on.0;
    reverse = reset_on.5;
    no_wrap = set_on.1;
    held = reset_on.6;
    rendition = refl;
    link = refl;
    shifted = shift_on;
    sets = sets_on;
    margins = margins_on;
    saves = cursor_on.0;
    restores = cursor_on.1;
    saves_by_mode = set_on.2;
  }

module _ {A : Type 0} where
  all_same : (f g : Value A → Bool) → ((v : Value A) → f v ≡ g v) → (vs : List (Value A))
      → list_all f vs ≡ list_all g vs
  all_same f g same [] = refl
  all_same f g same (v ∷ vs) = rw (same v, all_same f g same vs) refl

  every : (vs : List (Value A)) → list_all (admits policy.All) vs ≡ true
  every [] = refl
  every (v ∷ vs) = every vs

  pub closes : (p : Policy) (f : Value A → Bool) → AdmitsAs p f → AdmitsItsClosing f
  closes policy.Text f same vs h =
      ap (list_all f)
      (text_closes f vs (sym (all_same f (admits policy.Text) same vs) ∙ h))
  closes policy.Color f same vs h =
      tints_close f (λ v k. sym (same v) ∙ k)
      (λ c k. same (csi (sgr Reset)), λ c k. same (osc (command.SetHyperlink None))) vs h
  closes policy.Screen f same vs h =
      all_same f (admits policy.Screen) same (closing f vs)
      ∙ back_all (admits policy.Screen) (screen_each A) (keeps_cursor f)
      (after_values vs as_at_start)
  closes policy.All f same vs h =
      all_same f (admits policy.All) same (closing f vs) ∙ every (closing f vs)

  pub texts : (p : Policy) (f : Value A → Bool) → AdmitsAs p f → IsPassedText f
  texts p f same v h = same v ∙ sym (text_passes p v h)
