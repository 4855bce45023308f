-- The values of actions, and the values that events give.
use Rattle.std.specs.Prelude.{ℕ, ℤ, ◌++◌, Bool, true, false, if◌then◌else◌, List, [], ◌∷◌, length, Option, Some, None, map}
use Rattle.esc_sequences.specs.declared.esc.Esc.{Esc}
use Rattle.esc_sequences.specs.Csis.{CsiValue, csi_value, csi_of}
use Rattle.esc_sequences.specs.Escs.{esc_of}
use Rattle.esc_device.specs.Kinds.{kind_of}
use Rattle.esc_device.specs.Values.{enter_of, short_of}
use Rattle.esc_device.specs.declared.enter.EnterDeviceControlMode.{EnterDeviceControlMode}
use Rattle.esc_device.specs.declared.kind.StringKind.{StringKind}
use Rattle.esc_device.specs.declared.kind.StringKind.TheVariants as kind
use Rattle.esc_device.specs.declared.mode.DeviceControlMode.{DeviceControlMode}
use Rattle.esc_device.specs.declared.mode.DeviceControlMode.TheVariants as device
use Rattle.esc_device.specs.declared.short.ShortDeviceControl.{ShortDeviceControl}
use Rattle.esc_frame.specs.Events.{Event}
use Rattle.esc_frame.specs.Events.Event.{Print, Execute, EscDispatch, CsiDispatch, OscDispatch, DcsHook, DcsPut, DcsUnhook, ApcDispatch}
use Rattle.esc_frame.specs.Limits.{is_within}
use Rattle.esc_kitty.specs.Images.{image_of}
use Rattle.esc_kitty.specs.declared.image.KittyImage.{KittyImage}
use Rattle.esc_osc.specs.Reading.{meaning as command_meant}
use Rattle.esc_osc.specs.declared.command.OperatingSystemCommand.{OperatingSystemCommand}
use Rattle.esc_sixel.specs.Items.{items}
use Rattle.esc_sixel.specs.Meaning.{sixel_of}
use Rattle.esc_sixel.specs.declared.sixel.Sixel.{Sixel}
use Rattle.xtgettcap.specs.Names.{names_of}
use Rattle.esc_actions.specs.ControlCodes.{code_of}
use Rattle.esc_actions.specs.declared.control_code.ControlCode.{ControlCode}
use Rattle.esc_actions.specs.declared.action.Action.{Action}
use Rattle.esc_actions.specs.declared.action.Action.TheVariants as action

-- an action, without its place in memory
pub data Value (A : Type 0) : Type 0 where
  print : ℕ → Value A
  string : List ℕ → Value A
  control : ControlCode → Value A
  esc : Esc → Value A
  csi : CsiValue → Value A
  osc : OperatingSystemCommand A → Value A
  kitty : KittyImage A → Value A
  sixel : Sixel A → Value A
  termcap : List (List ℕ) → Value A
  short : ShortDeviceControl A → Value A
  enter : EnterDeviceControlMode A → Value A
  datum : ℕ → Value A
  exit : Value A

-- a step of a mode, or a short control
abbrev pub device_value : {A : Type 0} → DeviceControlMode A → Value A
device_value (device.Enter e) = enter e
device_value device.Exit = exit
device_value (device.Data b) = datum b
device_value (device.ShortDeviceControl s) = short s

abbrev pub value_of : {A : Type 0} → Action A → Value A
value_of (action.Print c) = print c
value_of (action.PrintString t) = string t
value_of (action.Control c) = control c
value_of (action.Esc e) = esc e
value_of (action.CSI c) = csi (csi_value c)
value_of (action.OperatingSystemCommand c) = osc c
value_of (action.KittyImage i) = kitty i
value_of (action.Sixel s) = sixel s
value_of (action.XtGetTcap ns) = termcap ns
value_of (action.DeviceControl m) = device_value m

-- The unfinished string between two events. It decides the values of the next one: an action that
-- is known only at the end of a string needs all of the string.
pub data Mode : Type 0 where
  -- nothing
  plain : Mode
  -- a sixel image: its parameters and its data so far
  in_sixel : List ℤ → List ℕ → Mode
  -- a termcap query: its data so far
  in_termcap : List ℕ → Mode
  -- a short control: its parameters, intermediates, final byte and data so far
  in_short : List ℤ → List ℕ → ℕ → List ℕ → Mode
  -- a mode, which gives everything at once
  entered : Mode

-- how many bytes of data have to be kept of it
abbrev pub data_count : Mode → ℕ
data_count plain = 0
data_count (in_sixel ps d) = length d
data_count (in_termcap d) = length d
data_count (in_short ps is f d) = length d
data_count entered = 0

-- the string that a header opens, by its kind
abbrev pub mode_at_hook : StringKind → ℕ → List ℤ → List ℕ → Mode
mode_at_hook kind.Sixel f ps is = in_sixel ps []
mode_at_hook kind.Termcap f ps is = in_termcap []
mode_at_hook kind.Short f ps is = in_short ps is f []
mode_at_hook kind.Other f ps is = entered

-- the unfinished string after a byte of data
abbrev pub mode_with_byte : Mode → ℕ → Mode
mode_with_byte plain b = plain
mode_with_byte (in_sixel ps d) b = in_sixel ps (d ++ b ∷ [])
mode_with_byte (in_termcap d) b = in_termcap (d ++ b ∷ [])
mode_with_byte (in_short ps is f d) b = in_short ps is f (d ++ b ∷ [])
mode_with_byte entered b = entered

-- the unfinished string after an event
abbrev pub mode_after : Mode → Event → Mode
mode_after m (Print c) = m
mode_after m (Execute b) = m
mode_after m (EscDispatch is more f) = m
mode_after m (CsiDispatch es more f) = m
mode_after m (OscDispatch ps) = m
mode_after m (DcsHook f ps is more) = mode_at_hook (kind_of f is more) f ps is
mode_after m (DcsPut b) = mode_with_byte m b
mode_after m DcsUnhook = plain
mode_after m (ApcDispatch t) = m

-- The values of a header, of a byte of data and of the end of a string. An image, a query and a
-- short control are given whole at the end, and only if their data is within the limit: past it
-- none is kept.
abbrev pub hook_values : {A : Type 0} → StringKind → ℕ → List ℤ → List ℕ → Bool → List (Value A)
hook_values kind.Other f ps is more = enter (enter_of f ps is more) ∷ []
hook_values _ f ps is more = []

abbrev pub taken_gives : {A : Type 0} → Mode → ℕ → List (Value A)
taken_gives entered b = datum b ∷ []
taken_gives _ b = []

abbrev pub unhook_values : {A : Type 0} → Option ℕ → Mode → List (Value A)
unhook_values limit plain = []
unhook_values limit (in_sixel ps d) =
    if is_within limit (length d) then sixel (sixel_of ps (items d)) ∷ [] else []
unhook_values limit (in_termcap d) =
    if is_within limit (length d) then termcap (names_of d) ∷ [] else []
unhook_values limit (in_short ps is f d) =
    if is_within limit (length d) then short (short_of ps is f d) ∷ [] else []
unhook_values limit entered = exit ∷ []

-- the one of a list
abbrev pub only_item : List ℕ → Option ℕ
only_item [] = None
only_item (i ∷ []) = Some i
only_item (i ∷ j ∷ is) = None

-- a control without a code gives nothing
abbrev pub control_values : {A : Type 0} → Option ControlCode → List (Value A)
control_values None = []
control_values (Some c) = control c ∷ []

-- data that is no image gives nothing
abbrev pub image_values : {A : Type 0} → Option (KittyImage A) → List (Value A)
image_values None = []
image_values (Some i) = kitty i ∷ []

-- the values that an event gives, if no more than the limit is kept of a string's data
abbrev pub event_values : {A : Type 0} → Option ℕ → Mode → Event → List (Value A)
event_values limit m (Print c) = print c ∷ []
event_values limit m (Execute b) = control_values (code_of b)
event_values limit m (EscDispatch is more f) = esc (esc_of (only_item is) f) ∷ []
event_values limit m (CsiDispatch es more f) = map csi (csi_of es more f)
event_values limit m (OscDispatch ps) = osc (command_meant ps) ∷ []
event_values limit m (DcsHook f ps is more) = hook_values (kind_of f is more) f ps is more
event_values limit m (DcsPut b) = taken_gives m b
event_values limit m DcsUnhook = unhook_values limit m
event_values limit m (ApcDispatch t) = image_values (image_of t)

-- whether an action of the event may have to be kept in memory
abbrev pub wants_memory : Event → Bool
wants_memory (Print c) = false
wants_memory (Execute b) = false
wants_memory (EscDispatch is more f) = false
wants_memory _ = true
