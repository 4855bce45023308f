-- The segments of a stream, taken apart, and the cut of a stream into them.
use Rattle.std.specs.Prelude.{ℕ, ◌≡◌, ◌&&◌, ◌||◌, Bool, true, false, ◌==◌, if◌then◌else◌, List, [], ◌∷◌, ◌++◌, map, length, Option, None}
use Rattle.std.specs.List.{flat_map}
use Rattle.esc_frame.specs.declared.classes.Kind.{Kind}
use Rattle.esc_frame.specs.declared.classes.Kind.TheVariants as kind
use Rattle.esc_frame.specs.Classes.{class_of, AllOf, bytes_of_class, without_noise, is_c0, is_raw, is_breaker, is_noise, is_control, is_c1, is_terminator, is_text}
use Rattle.esc_frame.specs.Classes.{is_high, in_escape, ends_escape, opens, in_csi, ends_csi, in_osc, in_data, is_put, is_ignored, letter_of, raw_of}
use Rattle.esc_frame.specs.Sequences.{is_sequence, is_prefix, is_pair, is_broken_before, number_of}
use Rattle.esc_values.specs.Clear.{parts_of}
use Rattle.esc_frame.specs.Events.{Event}
use Rattle.esc_frame.specs.Events.Event.{Print, Execute, EscDispatch, CsiDispatch, OscDispatch, DcsHook, DcsPut, DcsUnhook, ApcDispatch}
use Rattle.esc_frame.specs.Limits.{is_within, is_read}
use Rattle.esc_frame.specs.Bodies.{is_csi_body, kept_csi_params, has_more_csi_params, dcs_params, dcs_intermediates, kept_intermediates}
use Rattle.esc_frame.specs.Bodies.{has_more_intermediates}

-- ESC, noise and the letter; or the control, raw or after C2
pub data Opener : Type 0 where
  Long : List ℕ → Opener
  Raw : Opener
  Pair : Opener

abbrev pub opener : Kind → Opener → List ℕ
opener k (Long n) = (0x1b ∷ n) ++ letter_of k ∷ []
opener k Raw = raw_of k ∷ []
opener k Pair = 0xc2 ∷ raw_of k ∷ []

abbrev pub IsOpener : Opener → Type 0
IsOpener (Long n) = AllOf is_noise n
IsOpener Raw = Unit {0}
IsOpener Pair = Unit {0}

-- a unit of the text of an OSC: a byte, a well-formed sequence, or a broken one
pub data OscUnit : Type 0 where
  One : ℕ → OscUnit
  Sequence : List ℕ → OscUnit
  BrokenOff : List ℕ → OscUnit

abbrev pub osc_unit_bytes : OscUnit → List ℕ
osc_unit_bytes (One b) = b ∷ []
osc_unit_bytes (Sequence x) = x
osc_unit_bytes (BrokenOff x) = x

-- it is a unit where these bytes follow
abbrev pub IsOscUnit : OscUnit → List ℕ → Type 0
IsOscUnit (One b) after = in_osc (class_of b) ≡ true
IsOscUnit (Sequence x) after = (is_sequence x ≡ true) × (is_pair x ≡ false)
IsOscUnit (BrokenOff x) after = (is_prefix x ≡ true) × (is_broken_before x after ≡ true)

abbrev pub text_bytes : List OscUnit → List ℕ
text_bytes ps = flat_map osc_unit_bytes ps

abbrev pub AreOscUnits : List OscUnit → List ℕ → Type 0
AreOscUnits [] after = Unit {0}
AreOscUnits (p ∷ ps) after = IsOscUnit p (text_bytes ps ++ after) × AreOscUnits ps after

-- the end of the text of an OSC: nothing yet, 07, or a sequence that may go on
pub data Ending : Type 0 where
  Open : Ending
  Rung : Ending
  Waits : List ℕ → Ending

abbrev pub ending_bytes : Ending → List ℕ
ending_bytes Open = []
ending_bytes Rung = 0x07 ∷ []
ending_bytes (Waits f) = f

-- A segment, taken apart. Its spelling is `bytes_of`, its shape `HasShape`.
pub data Segment : Type 0 where
  -- a character: 20-7F
  Character : ℕ → Segment
  -- a character: a well-formed sequence that is no control
  Wide : List ℕ → Segment
  -- a proper prefix of a sequence, broken off or pending
  Broken : List ℕ → Segment
  -- a stray byte: A0-C1, F5-FF
  Stray : ℕ → Segment
  -- a C0 by itself, also CAN and SUB
  Control : ℕ → Segment
  -- a C1 by itself, raw (false) or after C2 (true)
  HighControl : Bool → ℕ → Segment
  -- a string terminator by itself, raw (false) or after C2 (true)
  Terminator : Bool → ℕ → Segment
  -- ESC, intermediates and noise, the final byte
  Escape : List ℕ → ℕ → Segment
  -- opener, body, final byte
  Csi : Opener → List ℕ → ℕ → Segment
  -- opener, the units of the text, and how they end
  Osc : Opener → List OscUnit → Ending → Segment
  -- opener, header, final byte, data
  Dcs : Opener → List ℕ → ℕ → List ℕ → Segment
  -- opener, data
  Apc : Opener → List ℕ → Segment
  -- a start of string or a privacy message: opener, data
  Ignored : Kind → Opener → List ℕ → Segment
  -- an escape sequence, a control sequence or a device control's header, cut short before its final
  -- byte
  CutEscape : List ℕ → Segment
  CutCsi : Opener → List ℕ → Segment
  CutDcs : Opener → List ℕ → Segment

abbrev pub after_c2 : Bool → ℕ → List ℕ
after_c2 true b = 0xc2 ∷ b ∷ []
after_c2 false b = b ∷ []

abbrev pub bytes_of : Segment → List ℕ
bytes_of (Character b) = b ∷ []
bytes_of (Wide x) = x
bytes_of (Broken x) = x
bytes_of (Stray b) = b ∷ []
bytes_of (Control b) = b ∷ []
bytes_of (HighControl p b) = after_c2 p b
bytes_of (Terminator p b) = after_c2 p b
bytes_of (Escape x f) = (0x1b ∷ x) ++ f ∷ []
bytes_of (Csi o x f) = opener kind.Csi o ++ x ++ f ∷ []
bytes_of (Osc o ps e) = opener kind.Osc o ++ text_bytes ps ++ ending_bytes e
bytes_of (CutEscape x) = 0x1b ∷ x
bytes_of (Dcs o x f d) = (opener kind.Dcs o ++ x ++ f ∷ []) ++ d
bytes_of (Apc o d) = opener kind.Apc o ++ d
bytes_of (Ignored k o d) = opener k o ++ d
bytes_of (CutDcs o x) = opener kind.Dcs o ++ x
bytes_of (CutCsi o x) = opener kind.Csi o ++ x

abbrev pub is_empty : List ℕ → Bool
is_empty [] = true
is_empty (_ ∷ _) = false

abbrev pub IsEnding : Ending → Type 0
IsEnding Open = Unit {0}
IsEnding Rung = Unit {0}
IsEnding (Waits f) = is_prefix f ≡ true

-- it has its shape where these bytes follow
abbrev pub HasShape : Segment → List ℕ → Type 0
HasShape (Character b) after = is_text (class_of b) ≡ true
HasShape (Wide x) after = (is_sequence x ≡ true) × (is_pair x ≡ false)
HasShape (Broken x) after = is_prefix x ≡ true
HasShape (Stray b) after = is_high (class_of b) ≡ true
HasShape (Control b) after = is_control (class_of b) ≡ true
HasShape (HighControl p b) after = is_c1 (class_of b) ≡ true
HasShape (Terminator p b) after = is_terminator (class_of b) ≡ true
HasShape (Escape x f) after = AllOf in_escape x × (ends_escape (class_of f) ≡ true)
    × ((is_empty (without_noise x) && opens (class_of f)) ≡ false)
HasShape (Csi o x f) after = IsOpener o × AllOf in_csi x × (ends_csi (class_of f) ≡ true)
HasShape (Osc o ps e) after = IsOpener o × AreOscUnits ps (ending_bytes e ++ after) × IsEnding e
HasShape (CutEscape x) after = AllOf in_escape x
HasShape (Dcs o x f d) after = IsOpener o × AllOf in_csi x × (ends_csi (class_of f) ≡ true)
    × AllOf in_data d
HasShape (Apc o d) after = IsOpener o × AllOf in_data d
HasShape (Ignored k o d) after = (is_ignored k ≡ true) × IsOpener o × AllOf in_data d
HasShape (CutDcs o x) after = IsOpener o × AllOf in_csi x
HasShape (CutCsi o x) after = IsOpener o × AllOf in_csi x

-- finished by itself
abbrev pub ends_itself : Segment → Bool
ends_itself (Broken x) = false
ends_itself (Osc o ps Rung) = true
ends_itself (Osc o ps _) = false
ends_itself (CutEscape x) = false
ends_itself (Dcs o x f d) = false
ends_itself (Apc o d) = false
ends_itself (Ignored k o d) = false
ends_itself (CutDcs o x) = false
ends_itself (CutCsi o x) = false
ends_itself _ = true

-- a breaker unit comes first
abbrev pub begins_pair : List ℕ → Bool
begins_pair [] = false
begins_pair (b ∷ _) = is_raw (class_of b)

abbrev pub breaks_text : List ℕ → Bool
breaks_text [] = false
breaks_text (b ∷ r) = is_breaker (class_of b) || ((b == 0xc2) && begins_pair r)

abbrev pub breaks : List ℕ → Bool
breaks [] = false
breaks (b ∷ _) = is_breaker (class_of b)

-- finished where these bytes follow
abbrev pub is_finished : Segment → List ℕ → Bool
is_finished (Broken x) after = is_broken_before x after
is_finished (Osc o ps Open) after = breaks_text after
is_finished (Osc o ps Rung) after = true
is_finished (Osc o ps (Waits f)) after = false
is_finished (CutEscape x) after = breaks after
is_finished (Dcs o x f d) after = breaks after
is_finished (Apc o d) after = breaks after
is_finished (Ignored k o d) after = breaks after
is_finished (CutDcs o x) after = breaks after
is_finished (CutCsi o x) after = breaks after
is_finished _ after = true

abbrev pub joined_bytes : List Segment → List ℕ
joined_bytes gs = flat_map bytes_of gs

-- each has its shape, and all but the last are finished
abbrev pub AreSegments : List Segment → Type 0
AreSegments [] = Unit {0}
AreSegments (g ∷ []) = HasShape g []
AreSegments (g ∷ h ∷ gs) = HasShape g (joined_bytes (h ∷ gs))
    × (is_finished g (joined_bytes (h ∷ gs)) ≡ true)
    × AreSegments (h ∷ gs)

-- a cut of the stream
pub record IsCut (stream : List ℕ) (gs : List Segment) : Type 0 where
  pub whole : stream ≡ joined_bytes gs
  pub each : AreSegments gs

abbrev pub executes : List ℕ → List Event
executes bytes = map Execute (bytes_of_class is_c0 bytes)

abbrev pub opener_events : Opener → List Event
opener_events (Long n) = executes n
opener_events Raw = []
opener_events Pair = []

-- the bytes that an OSC keeps of a unit
abbrev pub kept_of : OscUnit → List ℕ
kept_of (One b) = bytes_of_class is_text (b ∷ [])
kept_of (Sequence x) = x
kept_of (BrokenOff x) = 0xef ∷ 0xbf ∷ 0xbd ∷ []

abbrev pub text_of : List OscUnit → List ℕ
text_of ps = flat_map kept_of ps

-- the event of an escape sequence with these intermediates
abbrev pub escape_event : List ℕ → ℕ → Event
escape_event x f = EscDispatch (kept_intermediates x) (has_more_intermediates x) f

-- the event of a control sequence with this body; then its events, none for another form
abbrev pub csi_event : List ℕ → ℕ → Event
csi_event x f = CsiDispatch (kept_csi_params x) (has_more_csi_params x) f

abbrev pub csi_events : List ℕ → ℕ → List Event
csi_events x f = if is_csi_body x then csi_event x f ∷ [] else []

-- the hook of a device control string with this header
abbrev pub hook_event : List ℕ → ℕ → Event
hook_event x f = DcsHook f (dcs_params x) (kept_intermediates (dcs_intermediates x))
    (has_more_intermediates (dcs_intermediates x))

abbrev pub puts : List ℕ → List Event
puts d = map DcsPut (bytes_of_class is_put d)

-- the events of a finished OSC with this text, and of an APC with these bytes: none past the
-- limit
abbrev pub osc_events : Option ℕ → List ℕ → List Event
osc_events limit t = if is_within limit (length t) then OscDispatch (parts_of t) ∷ [] else []

abbrev pub apc_events : Option ℕ → List ℕ → List Event
apc_events limit t = if is_within limit (length t) then ApcDispatch t ∷ [] else []

-- the events of a segment, where of each string no more is kept than the limit
abbrev pub events_of_within : Option ℕ → Segment → Bool → List Event
events_of_within limit (Character b) finished = Print b ∷ []
events_of_within limit (Wide x) finished = Print (number_of x) ∷ []
events_of_within limit (Broken x) finished = if finished then Print 0xfffd ∷ [] else []
events_of_within limit (Stray b) finished = Print 0xfffd ∷ []
events_of_within limit (Control b) finished = Execute b ∷ []
events_of_within limit (HighControl p b) finished = Execute b ∷ []
events_of_within limit (Terminator p b) finished = []
events_of_within limit (Escape x f) finished = executes x ++ escape_event (without_noise x) f ∷ []
events_of_within limit (Csi o x f) finished =
    opener_events o ++ executes x ++ csi_events (without_noise x) f
events_of_within limit (Osc o ps e) finished =
    opener_events o ++ (if finished then osc_events limit (text_of ps) else [])
events_of_within limit (CutEscape x) finished = executes x
events_of_within limit (Dcs o x f d) finished =
    opener_events o ++ (if is_read limit (without_noise x)
    then (hook_event (without_noise x) f ∷ puts d)
    ++ (if finished then DcsUnhook ∷ [] else []) else [])
events_of_within limit (Apc o d) finished =
    opener_events o ++ (if finished then apc_events limit (bytes_of_class is_text d) else [])
events_of_within limit (Ignored k o d) finished = opener_events o
events_of_within limit (CutDcs o x) finished = opener_events o
events_of_within limit (CutCsi o x) finished = opener_events o ++ executes x

abbrev pub events_of_cut_within : Option ℕ → List Segment → List Event
events_of_cut_within limit [] = []
events_of_cut_within limit (g ∷ []) = events_of_within limit g (ends_itself g)
events_of_cut_within limit (g ∷ h ∷ gs) =
    events_of_within limit g true ++ events_of_cut_within limit (h ∷ gs)

-- says that a stream has these events: those of its cut
abbrev pub HasEventsWithin : Option ℕ → List ℕ → List Event → Type 0
HasEventsWithin limit stream events = (gs : List Segment) × IsCut stream gs
    × (events ≡ events_of_cut_within limit gs)

-- the same without a limit
abbrev pub events_of : Segment → Bool → List Event
events_of g finished = events_of_within None g finished

abbrev pub events_of_cut : List Segment → List Event
events_of_cut gs = events_of_cut_within None gs

abbrev pub HasEvents : List ℕ → List Event → Type 0
HasEvents stream events = HasEventsWithin None stream events
