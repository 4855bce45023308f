-- The laws of the crates below about texts, events and values. Only private contracts cite it: the
-- laws of this crate rest on it, and it rests on calls of those laws.
use Rattle.std.specs.Prelude.{ℕ, ◌≡◌, ◌<◌, ◌≤◌, true, false, List, [], ◌∷◌, ◌++◌, length, Option, Some, ℤ, Bool}
use Rattle.std.specs.List.{list_all, list_any}
use Rattle.std.specs.Char.{encode_utf8}
use Rattle.esc_values.specs.Clear.{is_clear, IsClearText, AreTextParts, parts_of, string_terminator}
use Rattle.esc_sequences.specs.Csis.{csi_of, ReadBack, unspecified}
use Rattle.esc_values.specs.Params.{csi_params, is_csi_body}
use Rattle.esc_values.specs.declared.csi_param.CsiParam.{CsiParam}
use Rattle.esc_device.specs.Kinds.{kind_of}
use Rattle.esc_device.specs.Says.{EnterSays, ShortSays, SixelSays, QuerySays}
use Rattle.esc_device.specs.Values.{enter_of, short_of}
use Rattle.esc_device.specs.Writable.{AreData, IsWritableEnter, IsWritableShort, is_high_byte}
use Rattle.esc_device.specs.declared.enter.EnterDeviceControlMode.{EnterDeviceControlMode}
use Rattle.esc_device.specs.declared.kind.StringKind.TheVariants as kind
use Rattle.esc_device.specs.declared.short.ShortDeviceControl.{ShortDeviceControl}
use Rattle.esc_frame.specs.Classes.{class_of, AllOf, is_control, is_c1, is_put, is_text}
use Rattle.esc_frame.specs.Events.{Event}
use Rattle.esc_frame.specs.Events.Event.{Print, Execute, EscDispatch, OscDispatch, DcsHook, ApcDispatch}
use Rattle.esc_frame.specs.Fits.{IsFit, AreFit, IsOneSegment}
use Rattle.esc_frame.specs.Stream.{Says, events_within}
use Rattle.esc_kitty.specs.Images.{image_of}
use Rattle.esc_kitty.specs.Writable.{is_kept, IsWritableImage, ReadsBack as ReadsBackImage}
use Rattle.esc_kitty.specs.declared.image.KittyImage.{KittyImage}
use Rattle.esc_osc.specs.Commands.{inner_text}
use Rattle.esc_osc.specs.Reading.{meaning as command_meant}
use Rattle.esc_osc.specs.Writable.{IsWritable as IsWritableCommand}
use Rattle.esc_osc.specs.declared.command.OperatingSystemCommand.{OperatingSystemCommand}
use Rattle.esc_sixel.specs.Items.{items}
use Rattle.esc_sixel.specs.Meaning.{sixel_of}
use Rattle.esc_sixel.specs.Writable.{AreNatural, IsWritable as IsWritableSixel}
use Rattle.esc_sixel.specs.declared.sixel.Sixel.{Sixel}
use Rattle.xtgettcap.specs.Names.{names_of, AreWritable as AreWritableNames}

pub record LowerLaws (A : Type 0) : Type 0 where
  -- the meaning of texts, whatever follows them
  pub prints : (c : ℕ) → is_clear c ≡ true → Says (encode_utf8 c) (Print c ∷ [])
  pub executes : (b : ℕ) → is_control (class_of b) ≡ true → Says (b ∷ []) (Execute b ∷ [])
  pub executes_high : (b : ℕ) → is_c1 (class_of b) ≡ true
      → Says (0xc2 ∷ b ∷ []) (Execute b ∷ [])
  pub one_segment : (t : List ℕ) (es : List Event) → IsOneSegment t es → Says t es
  pub command : (t : List ℕ) → IsClearText t
      → Says ((0x1b ∷ 0x5d ∷ t) ++ string_terminator) (OscDispatch (parts_of t)
      ∷ EscDispatch [] false 0x5c ∷ [])
  pub application : (t : List ℕ) → AllOf is_text t
      → Says ((0x1b ∷ 0x5f ∷ t) ++ string_terminator) (ApcDispatch t ∷ EscDispatch [] false 0x5c
      ∷ [])
  -- the events that any stream can have
  pub events_fit : (limit : Option ℕ) (s : List ℕ) → AreFit (events_within limit s)
  -- operating system commands
  pub command_clear : (c : OperatingSystemCommand A) → IsWritableCommand c
      → IsClearText (inner_text c)
  pub command_back : (c : OperatingSystemCommand A) → IsWritableCommand c
      → command_meant (parts_of (inner_text c)) ≡ c
  pub command_writable : (ps : List (List ℕ)) → AreTextParts ps
      → IsWritableCommand {A = A} (command_meant ps)
  -- kitty's images
  pub image_back : (i : KittyImage A) → IsWritableImage i → ReadsBackImage i
  pub image_writable : (t : List ℕ) → list_all is_kept t ≡ true → (i : KittyImage A)
      → image_of t ≡ Some i → IsWritableImage i
  -- control sequences
  pub csi_back : (x : List ℕ) (f : ℕ) → is_csi_body x ≡ true → length (csi_params x) ≤ 256 → f < 128
      → ReadBack f (csi_of (csi_params x) false f)
  pub csi_truncated : (es : List CsiParam) (f : ℕ) → csi_of es true f ≡ unspecified es true f ∷ []
  -- device control strings
  pub mode_says : (e : EnterDeviceControlMode A) (d : List ℕ) → IsWritableEnter e → AreData d
      → EnterSays e d
  pub short_says : (s : ShortDeviceControl A) → IsWritableShort s → ShortSays s
  pub sixel_says : (s : Sixel A) → IsWritableSixel s → SixelSays s
  pub query_says : (ns : List (List ℕ)) → AreWritableNames ns → QuerySays ns
  pub header_natural : (f : ℕ) (ps : List ℤ) (is : List ℕ) (more : Bool)
      → IsFit (DcsHook f ps is more) → AreNatural ps
  pub header_writable : (f : ℕ) (ps : List ℤ) (is : List ℕ) (more : Bool)
      → IsFit (DcsHook f ps is more) → kind_of f is more ≡ kind.Other → more ≡ false
      → IsWritableEnter {A = A} (enter_of f ps is more)
  pub short_writable : (f : ℕ) (ps : List ℤ) (is : List ℕ) (more : Bool) (d : List ℕ)
      → IsFit (DcsHook f ps is more) → kind_of f is more ≡ kind.Short
      → AllOf is_put d → list_any is_high_byte d ≡ false
      → IsWritableShort {A = A} (short_of ps is f d)
  pub sixel_writable : (ps : List ℤ) (d : List ℕ) → AreNatural ps
      → IsWritableSixel (sixel_of {A = A} ps (items d))
  pub names_writable : (d : List ℕ) → AreWritableNames (names_of d)
