-- A stream means characters one by one, and no string of them.
use Rattle.std.proofs.Common.{ℕ, ℤ, ◌≡◌, Bool, true, false, if◌then◌else◌, List, [], ◌∷◌, length, map, Option, None, Some, refl}
use Rattle.std.specs.List.{list_all}
use Rattle.esc_sixel.specs.Items.{items}
use Rattle.esc_sixel.specs.Meaning.{sixel_of}
use Rattle.xtgettcap.specs.Names.{names_of}
use Rattle.esc_device.specs.Kinds.{kind_of}
use Rattle.esc_device.specs.Values.{short_of}
use Rattle.esc_device.specs.declared.kind.StringKind.{StringKind}
use Rattle.esc_device.specs.declared.kind.StringKind.TheVariants as kind
use Rattle.esc_frame.specs.Events.{Event}
use Rattle.esc_frame.specs.Events.Event.{Print, Execute, EscDispatch, CsiDispatch, OscDispatch, DcsHook, DcsPut, DcsUnhook, ApcDispatch}
use Rattle.esc_frame.specs.Limits.{is_within}
use Rattle.esc_frame.specs.Stream.{events_within}
use Rattle.esc_kitty.specs.Images.{image_of}
use Rattle.esc_kitty.specs.declared.image.KittyImage.{KittyImage}
use Rattle.esc_sequences.specs.Csis.{CsiValue, csi_of}
use Rattle.esc_actions.specs.ControlCodes.{code_of}
use Rattle.esc_actions.specs.Meaning.{meaning_within, values_from}
use Rattle.esc_actions.specs.Values.{Mode, Value, plain, in_sixel, in_termcap, in_short, entered, mode_after, unhook_values, csi, control_values, event_values, image_values, hook_values, short, sixel, string, taken_gives, termcap}
use Rattle.esc_actions.specs.declared.control_code.ControlCode.{ControlCode}
use Rattle.esc_filter.proofs.ByLine.DataHasNoFeed.{both}

-- it is no string of characters
abbrev pub is_single : {A : Type 0} → Value A → Bool
is_single (string t) = false
is_single _ = true

module _ (A : Type 0) where
  abbrev AreSingle : List (Value A) → Type 0
  AreSingle vs = list_all is_single vs ≡ true

  executed_single : (o : Option ControlCode) → AreSingle (control_values o)
  executed_single None = refl
  executed_single (Some c) = refl

  csi_single : (vs : List CsiValue) → AreSingle (map csi vs)
  csi_single [] = refl
  csi_single (v ∷ vs) = csi_single vs

  opened_single : (k : StringKind) (f : ℕ) (ps : List ℤ) (is : List ℕ) (more : Bool)
      → AreSingle (hook_values k f ps is more)
  opened_single kind.Sixel f ps is more = refl
  opened_single kind.Termcap f ps is more = refl
  opened_single kind.Short f ps is more = refl
  opened_single kind.Other f ps is more = refl

  taken_single : (m : Mode) (b : ℕ) → AreSingle (taken_gives m b)
  taken_single plain b = refl
  taken_single (in_sixel ps d) b = refl
  taken_single (in_termcap d) b = refl
  taken_single (in_short ps is f d) b = refl
  taken_single entered b = refl

  imaged_single : (o : Option (KittyImage A)) → AreSingle (image_values o)
  imaged_single None = refl
  imaged_single (Some i) = refl

  where_within : (t : Bool) (v : Value A) → is_single v ≡ true
      → AreSingle (if t then v ∷ [] else [])
  where_within true v h = rw h refl
  where_within false v h = refl

  closed_single : (limit : Option ℕ) (m : Mode) → AreSingle (unhook_values limit m)
  closed_single limit plain = refl
  closed_single limit (in_sixel ps d) =
      where_within (is_within limit (length d)) (sixel (sixel_of ps (items d))) refl
  closed_single limit (in_termcap d) =
      where_within (is_within limit (length d)) (termcap (names_of d)) refl
  closed_single limit (in_short ps is f d) =
      where_within (is_within limit (length d)) (short (short_of ps is f d)) refl
  closed_single limit entered = refl

  given_single : (limit : Option ℕ) (m : Mode) (e : Event) → AreSingle (event_values limit m e)
  given_single limit m DcsUnhook = closed_single limit m
  given_single limit m (Print c) = refl
  given_single limit m (Execute b) = executed_single (code_of b)
  given_single limit m (EscDispatch is more f) = refl
  given_single limit m (CsiDispatch es more f) = csi_single (csi_of es more f)
  given_single limit m (OscDispatch ps) = refl
  given_single limit m (DcsHook f ps is more) = opened_single (kind_of f is more) f ps is more
  given_single limit m (DcsPut b) = taken_single m b
  given_single limit m (ApcDispatch t) = imaged_single (image_of t)

  values_single : (limit : Option ℕ) (m : Mode) (es : List Event)
      → AreSingle (values_from limit m es)
  values_single limit m [] = refl
  values_single limit m (e ∷ es) =
      both is_single (event_values limit m e) (values_from limit (mode_after m e) es)
      (given_single limit m e)
      (values_single limit (mode_after m e) es)

  pub meaning_single : (limit : Option ℕ) (s : List ℕ) → AreSingle (meaning_within limit s)
  unfolding meaning_within
  meaning_single limit s = values_single limit plain (events_within limit s)
