-- Which values and lists read back from their text.
use Rattle.std.specs.Prelude.{ℕ, ◌≡◌, ◌≢◌, Bool, true, false, not, nat_lt, nat_le, ◌==◌, ◌&&◌, ◌||◌, List, [], ◌∷◌, None}
use Rattle.std.specs.List.{list_any}
use Rattle.esc_values.specs.Clear.{is_clear, IsClearText}
use Rattle.esc_sequences.specs.Csis.{CsiValue, sgr, unspecified, csi_text}
use Rattle.esc_sequences.specs.Escs.{esc_text}
use Rattle.esc_sequences.specs.declared.esc.Esc.{Esc}
use Rattle.esc_sequences.specs.declared.esc.Esc.TheVariants as esc_variant
use Rattle.esc_frame.specs.Classes.{class_of, opens}
use Rattle.esc_frame.specs.Events.{Event}
use Rattle.esc_frame.specs.Fits.{IsOneSegment}
use Rattle.esc_device.specs.Writable.{IsWritableEnter, IsWritableShort, is_datum, is_high_byte}
use Rattle.esc_kitty.specs.Writable.{IsWritableImage}
use Rattle.esc_osc.specs.Writable.{IsWritable as IsWritableCommand}
use Rattle.esc_sixel.specs.Writable.{IsWritable as IsWritableSixel}
use Rattle.xtgettcap.specs.Names.{AreWritable as AreWritableNames}
use Rattle.esc_actions.specs.ControlCodes.{code_number}
use Rattle.esc_actions.specs.Meaning.{values_from}
use Rattle.esc_actions.specs.Values.{Value, print, string, control, esc, csi, osc, kitty, sixel, termcap, short, enter, datum, exit, plain}

-- a C0 but ESC, or a C1 that neither opens nor ends a string or a sequence: 82-8F, 91-97, 9A
abbrev pub is_lone_control : ℕ → Bool
is_lone_control b = (nat_lt b 0x20 && not (b == 0x1b))
    || ((nat_le 0x82 b && nat_le b 0x8f) || ((nat_le 0x91 b && nat_le b 0x97) || (b == 0x9a)))

-- A value that reads back, whatever follows its text: clear characters; a code that stands for
-- itself; an escape sequence or a control sequence whose text is one segment, finished by itself,
-- that gives this one value; a writable command, image, query, short control, header or byte of a
-- mode; the end of a mode.
abbrev pub IsWritable : {A : Type 0} → Value A → Type 0
IsWritable (print c) = is_clear c ≡ true
IsWritable (string t) = IsClearText t × (t ≢ [])
IsWritable (control c) = is_lone_control (code_number c) ≡ true
IsWritable {A = A} (esc e) = (es : List Event) × IsOneSegment (esc_text e) es
    × (values_from {A = A} None plain es ≡ esc e ∷ [])
IsWritable {A = A} (csi c) = (es : List Event) × IsOneSegment (csi_text c) es
    × (values_from {A = A} None plain es ≡ csi c ∷ [])
IsWritable (osc c) = IsWritableCommand c
IsWritable (kitty i) = IsWritableImage i
IsWritable (sixel s) = IsWritableSixel s
IsWritable (termcap ns) = AreWritableNames ns
IsWritable (short s) = IsWritableShort s
IsWritable (enter e) = IsWritableEnter e
IsWritable (datum b) = is_datum b ≡ true
IsWritable exit = Unit {0}

-- the values that come inside a mode that is entered, and nowhere else
abbrev pub is_within : {A : Type 0} → Value A → Bool
is_within (datum b) = true
is_within exit = true
is_within _ = false

-- whether a mode is entered after it
abbrev pub stays_within : {A : Type 0} → Value A → Bool
stays_within (enter e) = true
stays_within (datum b) = true
stays_within _ = false

-- writable values in groups: the header of a mode, its bytes and its end come one after another;
-- `within` says whether a mode is entered before them
abbrev pub AreWritableFrom : {A : Type 0} → Bool → List (Value A) → Type 0
AreWritableFrom within [] = false ≡ within
AreWritableFrom within (v ∷ vs) = (is_within v ≡ within) × IsWritable v
    × AreWritableFrom (stays_within v) vs

-- a writable list
abbrev pub AreWritable : {A : Type 0} → List (Value A) → Type 0
AreWritable vs = AreWritableFrom false vs

-- the letters that open a string or a control sequence after ESC: [ ] P X ^ _
abbrev pub is_opener : ℕ → Bool
is_opener b =
    (b == 0x5b) || ((b == 0x5d) || ((b == 0x50) || ((b == 0x58) || ((b == 0x5e) || (b == 0x5f)))))

-- an escape sequence without intermediate whose letter opens a string or a control sequence
abbrev pub is_opening : Esc → Bool
is_opening (esc_variant.Unspecified None f) = opens (class_of f)
is_opening _ = false

-- a control sequence with parameters left out
abbrev pub is_truncated : CsiValue → Bool
is_truncated (sgr s) = false
is_truncated (unspecified es more f) = more

-- the exceptions: these two; the header of a mode with intermediates left out; a byte A0-FF of a
-- mode, and a short control that has one
abbrev pub is_exception : {A : Type 0} → Value A → Bool
is_exception (esc e) = is_opening e
is_exception (csi c) = is_truncated c
is_exception (enter e) = e.ignored_extra_intermediates
is_exception (datum b) = is_high_byte b
is_exception (short s) = list_any is_high_byte s.content
is_exception _ = false

-- an action that is handed out is writable, but for these four
abbrev pub IsHandedOut : {A : Type 0} → Value A → Type 0
IsHandedOut v = is_exception v ≡ false → IsWritable v

abbrev pub EmittedAreWritable : {A : Type 0} → List (Value A) → Type 0
EmittedAreWritable [] = Unit {0}
EmittedAreWritable (v ∷ vs) = IsHandedOut v × EmittedAreWritable vs
