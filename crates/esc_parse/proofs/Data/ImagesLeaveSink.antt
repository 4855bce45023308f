-- Images that leave a sink as it is.
use Rattle.std.proofs.Common.{◌≡◌, Bool, true, false, if◌then◌else◌, List, [], ◌∷◌, Option, Some, None, refl}
use Rattle.std.proofs.lemmas.Bool.{and_parts}
use Rattle.std.specs.List.{FoldsTo, list_all}
use Rattle.esc_kitty.specs.declared.image.KittyImage.{KittyImage}
use Rattle.esc_sixel.specs.declared.sixel.Sixel.{Sixel}
use Rattle.esc_actions.specs.Values.{Value, image_values, value_of}
use Rattle.esc_actions.specs.Values.Value.{print, string, control, esc, csi, osc, kitty, sixel, termcap, short, enter, datum, exit}
use Rattle.esc_actions.specs.declared.action.Action.{Action}
use Rattle.esc_actions.specs.declared.action.Action.TheVariants as action
use Rattle.esc_parse.specs.Given.{At}
use Rattle.esc_parse.specs.Images.{is_image}

-- a sink that no image changes
module _ {S A : Type 0} (R : S → Action A → S → Type 0) (s : S)
    (same : (a : Action A) → is_image (value_of a) ≡ true → R s a s) where
  one_dropped : (v : Value A) → is_image v ≡ true → At value_of R s v s
  one_dropped (print c) h = absurd cc
  one_dropped (string t) h = absurd cc
  one_dropped (control c) h = absurd cc
  one_dropped (esc e) h = absurd cc
  one_dropped (csi c) h = absurd cc
  one_dropped (osc c) h = absurd cc
  one_dropped (kitty i) h = (action.KittyImage i, refl, same (action.KittyImage i) refl)
  one_dropped (sixel x) h = (action.Sixel x, refl, same (action.Sixel x) refl)
  one_dropped (termcap ns) h = absurd cc
  one_dropped (short x) h = absurd cc
  one_dropped (enter x) h = absurd cc
  one_dropped (datum b) h = absurd cc
  one_dropped exit h = absurd cc

  -- none of several either
  pub all_dropped : (vs : List (Value A)) → list_all is_image vs ≡ true
      → FoldsTo (At value_of R) s vs s
  all_dropped [] h = refl
  all_dropped (v ∷ vs) h =
      let (first, rest) = and_parts (is_image v) (list_all is_image vs) h in
      (s, one_dropped v first, all_dropped vs rest)

-- an application program command means an image or nothing
pub command_images : {A : Type 0} (o : Option (KittyImage A)) → list_all is_image (image_values o)
    ≡ true
command_images None = refl
command_images (Some i) = refl

-- and so is the end of a sixel image
pub sixel_images : {A : Type 0} (within : Bool) (x : Sixel A)
    → list_all is_image (if within then sixel x ∷ [] else []) ≡ true
sixel_images true x = refl
sixel_images false x = refl
