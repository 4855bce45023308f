-- The events of device control strings, and the headers of their texts.
use Rattle.std.specs.Prelude.{ℕ, ℤ, ◌≡◌, true, false, List, [], ◌∷◌, ◌++◌, map}
use Rattle.esc_values.specs.Params.{is_private_prefix}
use Rattle.esc_frame.specs.Bodies.{is_dcs_header, dcs_params, dcs_intermediates}
use Rattle.esc_frame.specs.Events.{Event}
use Rattle.esc_frame.specs.Events.Event.{EscDispatch, DcsHook, DcsPut, DcsUnhook}
use Rattle.esc_frame.specs.Stream.{Says}
use Rattle.esc_sixel.specs.Items.{items}
use Rattle.esc_sixel.specs.Meaning.{sixel_of}
use Rattle.esc_sixel.specs.Texts.{sixel_text}
use Rattle.esc_sixel.specs.declared.sixel.Sixel.{Sixel}
use Rattle.xtgettcap.specs.Names.{names_of, names_text, query_text}
use Rattle.esc_device.specs.Texts.{as_text, params_text, enter_text, short_text}
use Rattle.esc_device.specs.declared.enter.EnterDeviceControlMode.{EnterDeviceControlMode}
use Rattle.esc_device.specs.declared.short.ShortDeviceControl.{ShortDeviceControl as Short}
use Rattle.esc_values.specs.Clear.{string_terminator}

-- no private prefix, or one
abbrev pub IsMark : List ℕ → Type 0
IsMark [] = Unit {0}
IsMark (i ∷ []) = is_private_prefix i ≡ true
IsMark (i ∷ j ∷ is) = ⊥

-- a header between `ESC P` and the final byte: a private prefix, parameters, intermediates
abbrev pub header : List ℕ → List ℤ → List ℕ → List ℕ
header m ps is = m ++ (params_text ps ++ is)

-- it is of its form, and has these parameters and intermediates
abbrev pub ReadsBack : List ℕ → List ℤ → List ℕ → Type 0
ReadsBack m ps is = (is_dcs_header (header m ps is) ≡ true) × (dcs_params (header m ps is) ≡ ps)
    × (dcs_intermediates (header m ps is) ≡ m ++ is)

-- the event of a mode's header
abbrev pub hook_of : {A : Type 0} → EnterDeviceControlMode A → Event
hook_of e = DcsHook e.byte e.params e.intermediates e.ignored_extra_intermediates

-- the events of a device control string with its string terminator
abbrev pub string_events : Event → List ℕ → List Event
string_events hook d = ((hook ∷ map DcsPut d) ++ DcsUnhook ∷ []) ++ EscDispatch [] false 0x5c ∷ []

-- a mode's header, this data and the string terminator say the header's event, the data byte by
-- byte, and the end
abbrev pub EnterSays : {A : Type 0} → EnterDeviceControlMode A → List ℕ → Type 0
EnterSays e d =
    Says ((enter_text e ++ as_text d) ++ string_terminator) (string_events (hook_of e) d)

abbrev pub ShortSays : {A : Type 0} → Short A → Type 0
ShortSays s =
    Says (short_text s) (string_events (DcsHook s.byte s.params s.intermediates false) s.content)

-- an image and the string terminator say a header of parameters alone with the final byte `q`, and
-- data, which mean the image
abbrev pub SixelSays : {A : Type 0} → Sixel A → Type 0
SixelSays {A = A} s = (ps : List ℤ) × (d : List ℕ)
    × Says (sixel_text s ++ string_terminator) (string_events (DcsHook 0x71 ps [] false) d)
    × (sixel_of {A = A} ps (items d) ≡ s)

-- a query and the string terminator say a header of `+` and `q`, and data, which mean the names
abbrev pub QuerySays : List (List ℕ) → Type 0
QuerySays ns =
    Says (query_text ns ++ string_terminator) (string_events (DcsHook 0x71 [] (0x2b ∷ []) false)
    (names_text ns)) × (names_of (names_text ns) ≡ ns)
