-- Images that do not pass.
use Rattle.std.proofs.Common.{◌≡◌, Bool, true, false, refl, subst, sym}
use Rattle.std.proofs.lemmas.Bool.{and_right}
use Rattle.esc_parse.specs.Images.{is_image}
use Rattle.esc_filter.specs.declared.written.Written.{Written}
use Rattle.esc_actions.specs.Values.{Value, value_of}
use Rattle.esc_actions.specs.Values.Value.{print, string, control, esc, csi, osc, kitty, sixel, termcap, short, enter, datum, exit}
use Rattle.esc_actions.specs.declared.action.Action.{Action}
use Rattle.esc_filter.specs.Fed.{Takes}
use Rattle.esc_filter.specs.Passing.{is_whole, passes}
use Rattle.esc_filter.specs.Rules.{admits, is_text, is_color, is_screen}
use Rattle.esc_filter.specs.declared.policy.Policy.{Policy}
use Rattle.esc_filter.specs.declared.policy.Policy.TheVariants as policy

-- no image is text or colour, or changes the screen alone
is_none : {A : Type 0} (v : Value A) → is_image v ≡ true → (is_text v ≡ false)
    × (is_color v ≡ false) × (is_screen v ≡ false)
is_none (print c) h = absurd cc
is_none (string t) h = absurd cc
is_none (control c) h = absurd cc
is_none (esc e) h = absurd cc
is_none (csi c) h = absurd cc
is_none (osc c) h = absurd cc
is_none (kitty i) h = (refl, refl, refl)
is_none (sixel s) h = (refl, refl, refl)
is_none (termcap ns) h = absurd cc
is_none (short s) h = absurd cc
is_none (enter e) h = absurd cc
is_none (datum b) h = absurd cc
is_none exit h = absurd cc

module _ {A : Type 0} (p : Policy) (v : Value A) where
  pub text_images : p ≡ policy.Text → is_image v ≡ true → admits p v ≡ false
  text_images e h = subst (λ x. admits x v ≡ false) (sym e) (is_none v h).0

  pub color_images : p ≡ policy.Color → is_image v ≡ true → admits p v ≡ false
  color_images e h =
      let (t, c, s) = is_none v h in
      subst (λ x. admits x v ≡ false) (sym e) (rw (t, c) refl)

  pub screen_images : p ≡ policy.Screen → is_image v ≡ true → admits p v ≡ false
  screen_images e h =
      let (t, c, s) = is_none v h in
      subst (λ x. admits x v ≡ false) (sym e) (rw (t, c, s) refl)

-- an action that is not admitted leaves a text as it is
pub passed_over : {A : Type 0} (admits : Value A → Bool) (p : Written A) (a : Action A)
    → admits (value_of a) ≡ false → Takes admits p a p
passed_over admits p a h =
    let stays : passes admits (value_of a) ≡ false = and_right (is_whole (value_of a))
    (admits (value_of a)) h in
    (λ e. absurd cc, λ _. refl)

-- the policies that admit no image, for `grind`
pub ruleset images = (text_images, color_images, screen_images)
