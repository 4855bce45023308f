-- The names of the parts of a stream.
use Rattle.std.specs.Prelude.{ℕ, ◌==◌, ◌&&◌, ◌||◌, nat_lt, Bool, true, false, not, if◌then◌else◌, List, [], ◌∷◌, length, get_or, codes, Option, Some, None}
use Rattle.std.specs.Char.{is_ascii_digit, is_ascii_graphic}
use Rattle.control_functions.specs.Controls.{control_of}
use Rattle.control_functions.specs.Controls.{words_of as control_words}
use Rattle.control_functions.specs.Escapes.{escape_of_name, named_c1}
use Rattle.control_functions.specs.Escapes.{name_of as escape_code, words_of as escape_words}
use Rattle.control_functions.specs.Functions.{function_of_csi}
use Rattle.control_functions.specs.Functions.{name_of as sequence_code, words_of as sequence_words}
use Rattle.control_functions.specs.declared.c0.C0.{C0}
use Rattle.control_functions.specs.declared.control_function.ControlFunction.{ControlFunction}
use Rattle.control_functions.specs.declared.escape_function.EscapeFunction.{EscapeFunction}
use Rattle.esc_actions.specs.ControlCodes.{code_number}
use Rattle.esc_actions.specs.Values.{Value, print, string, control, esc, csi, osc, kitty, sixel, termcap, short, enter, datum, exit}
use Rattle.esc_osc.specs.declared.command.OperatingSystemCommand.{OperatingSystemCommand}
use Rattle.esc_osc.specs.declared.command.OperatingSystemCommand.TheVariants as command
use Rattle.esc_segments.specs.declared.kind.SegmentKind.{SegmentKind}
use Rattle.esc_segments.specs.declared.kind.SegmentKind.TheVariants as kinds
use Rattle.esc_values.specs.Scalars.{number_of}
use Rattle.escfilter.specs.declared.name.Key.{Key}
use Rattle.escfilter.specs.declared.name.Key.TheVariants as key
use Rattle.escfilter.specs.declared.name.Name.{Name}

-- the words of a name, and its key
pub record Title : Type 0 where
  pub kind : List ℕ
  pub name : List ℕ
  pub words : List ℕ
  pub key : Key

abbrev pub title_of : Name → Title
title_of n = record { kind = n.kind.now; name = n.name.now; words = n.words.now; key = n.key }

abbrev pub key_title : List ℕ → List ℕ → List ℕ → Key → Title
key_title k n w x = record { kind = k; name = n; words = w; key = x }

abbrev pub plain_title : List ℕ → List ℕ → List ℕ → Title
plain_title k n w = key_title k n w key.Nothing

abbrev pub is_key : Key → Bool
is_key key.Nothing = false
is_key (key.Number n) = true
is_key (key.Bytes bs) = true

abbrev pub has_key : Title → Bool
has_key t = is_key t.key

abbrev pub bare : Name → Name
bare n = record n { key = key.Nothing }

-- ---- keys

-- the number that these digits are, where there are few
abbrev pub as_number : Option ℕ → Key
as_number None = key.Nothing
as_number (Some n) = key.Number n

abbrev pub number_in : List ℕ → Key
number_in [] = key.Nothing
number_in (d ∷ ds) = if nat_lt 18 (length (d ∷ ds)) || not (is_ascii_digit d) then key.Nothing
    else as_number (number_of 64 (d ∷ ds))

-- that of the first part of a command
abbrev pub number_key : List (List ℕ) → Key
number_key [] = key.Nothing
number_key (p ∷ ps) = number_in p

-- the first two intermediates and the final byte of a header
abbrev pub header_key : List ℕ → ℕ → Key
header_key [] f = key.Bytes (0 ∷ 0 ∷ f ∷ [])
header_key (i ∷ []) f = key.Bytes (0 ∷ i ∷ f ∷ [])
header_key (i ∷ j ∷ is) f = key.Bytes (i ∷ j ∷ f ∷ [])

-- the byte here, where it shows
abbrev pub shown_key : List ℕ → ℕ → Key
shown_key bytes i = if nat_lt i (length bytes) && is_ascii_graphic (get_or bytes i 0)
    then key.Bytes (0 ∷ 0 ∷ get_or bytes i 0 ∷ []) else key.Nothing

-- the first byte of an application program command: after 9F, or ESC `_` or C2 9F
abbrev pub apc_key : List ℕ → Key
apc_key [] = key.Nothing
apc_key (b ∷ bs) = if b == 0x9f then shown_key (b ∷ bs) 1 else shown_key (b ∷ bs) 2

-- ---- segments

-- a control within an opener, or the first byte of one
abbrev pub is_passed_over : ℕ → Bool
is_passed_over b = nat_lt b 0x20 || (b == 0x7f || b == 0xc2)

abbrev pub opener : ℕ → List ℕ
opener b = if b == 0x5b || b == 0x9b then codes "CSI"
    else if b == 0x50 || b == 0x90 then codes "DCS" else codes "ESC"

-- the kind of a sequence that is cut short
abbrev pub opened_by : List ℕ → List ℕ
opened_by [] = codes "ESC"
opened_by (b ∷ bs) = if is_passed_over b then opened_by bs else opener b

abbrev pub deceiving_title : Title
deceiving_title = plain_title (codes "character") [] (codes "that hides or reorders text")

abbrev pub unnamed_title : List ℕ → Title
unnamed_title k = plain_title k [] (codes "without a name")

abbrev pub escape_title : List ℕ → Option EscapeFunction → Title
escape_title k None = unnamed_title k
escape_title k (Some f) = plain_title k (escape_code f) (escape_words f)

abbrev pub control_title_or : ℕ → Option C0 → Title
control_title_or n None = escape_title (codes "control") (named_c1 n)
control_title_or n (Some c) = plain_title (codes "control") [] (control_words c)

-- a control of C0 or C1
abbrev pub control_title : ℕ → Title
control_title n = control_title_or n (control_of n)

abbrev pub is_lone_return : List ℕ → Bool
is_lone_return [] = false
is_lone_return (b ∷ bs) = (length (b ∷ bs) == 1) && (b == 0x0d)

abbrev pub lone_title : List ℕ → Title
lone_title bytes =
    if is_lone_return bytes then control_title 0x0d else unnamed_title (codes "control")

-- a segment of this kind and these bytes that means nothing of its own, or of which other
-- characters are written
abbrev pub kind_title : SegmentKind → List ℕ → Title
kind_title kinds.Character bytes = deceiving_title
kind_title kinds.Broken bytes = plain_title (codes "character") [] (codes "that is no UTF-8")
kind_title kinds.Stray bytes = plain_title (codes "character") [] (codes "that is no UTF-8")
kind_title kinds.Control bytes = lone_title bytes
kind_title kinds.Terminator bytes =
    plain_title (codes "control") (codes "ST") (codes "string terminator that ends nothing")
kind_title kinds.Escape bytes = unnamed_title (codes "ESC")
kind_title kinds.Csi bytes = plain_title (codes "CSI") [] (codes "malformed")
kind_title kinds.Osc bytes = plain_title (codes "OSC") [] []
kind_title kinds.Dcs bytes = plain_title (codes "DCS") [] []
kind_title kinds.Apc bytes = key_title (codes "APC") [] [] (apc_key bytes)
kind_title kinds.Ignored bytes = plain_title (codes "SOS or PM") [] []
kind_title kinds.CutShort bytes = plain_title (opened_by bytes) [] (codes "cut short")

-- ---- values

abbrev pub character_title : ℕ → Title
character_title c = if c == 0x7f
    then plain_title (codes "character") (codes "DEL") (codes "delete") else deceiving_title

abbrev pub sequence_title : Option ControlFunction → Title
sequence_title None = unnamed_title (codes "CSI")
sequence_title (Some f) = plain_title (codes "CSI") (sequence_code f) (sequence_words f)

-- an operating system command (xterm's list, "Operating System Commands")
abbrev pub osc_title : List ℕ → List ℕ → Title
osc_title n w = plain_title (codes "OSC") n w

abbrev pub command_title : {A : Type 0} → OperatingSystemCommand A → Title
command_title (command.SetIconNameAndWindowTitle t) =
    osc_title (codes "0") (codes "icon name and window title")
command_title (command.SetIconName t) = osc_title (codes "1") (codes "icon name")
command_title (command.SetWindowTitle t) = osc_title (codes "2") (codes "window title")
command_title (command.SetWindowTitleSun t) = osc_title (codes "l") (codes "window title")
command_title (command.SetIconNameSun t) = osc_title (codes "L") (codes "icon name")
command_title (command.ChangeColorNumber ps) =
    osc_title (codes "4") (codes "colours of the palette")
command_title (command.CurrentWorkingDirectory t) =
    osc_title (codes "7") (codes "working directory")
command_title (command.SetHyperlink l) = osc_title (codes "8") (codes "hyperlink")
command_title (command.SystemNotification t) = osc_title (codes "9") (codes "notification")
command_title (command.ConEmuProgress p) = osc_title (codes "9;4") (codes "progress")
command_title (command.ChangeDynamicColors n cs) =
    osc_title (codes "10 to 19") (codes "dynamic colours")
command_title (command.ClearSelection s) = osc_title (codes "52") (codes "clipboard")
command_title (command.QuerySelection s) = osc_title (codes "52") (codes "clipboard")
command_title (command.SetSelection s t) = osc_title (codes "52") (codes "clipboard")
command_title (command.ResetColors ns) =
    osc_title (codes "104") (codes "reset colours of the palette")
command_title (command.ResetDynamicColor n) =
    osc_title (codes "110 to 119") (codes "reset a dynamic colour")
command_title (command.FinalTermSemanticPrompt p) =
    osc_title (codes "133") (codes "prompt of a shell")
command_title (command.RxvtExtension ps) = osc_title (codes "777") (codes "extension of rxvt")
command_title (command.ITermProprietary p) = osc_title (codes "1337") (codes "command of iTerm2")
command_title (command.Unspecified ps) =
    key_title (codes "OSC") [] (codes "of another kind") (number_key ps)

-- the title of a value
abbrev pub value_title : {A : Type 0} → Value A → Title
value_title (print c) = character_title c
value_title (string s) = deceiving_title
value_title (control c) = control_title (code_number c)
value_title (esc e) = escape_title (codes "ESC") (escape_of_name e)
value_title (csi c) = sequence_title (function_of_csi c)
value_title (osc c) = command_title c
value_title (kitty i) = plain_title (codes "APC") (codes "G") (codes "kitty image")
value_title (sixel s) = plain_title (codes "DCS") (codes "q") (codes "sixel image")
value_title (termcap ns) =
    plain_title (codes "DCS") (codes "XTGETTCAP") (codes "ask for termcap data")
value_title (short s) = plain_title (codes "DCS") (codes "$q") (codes "ask for a setting")
value_title (enter e) =
    key_title (codes "DCS") [] (codes "of another kind") (header_key e.intermediates e.byte)
value_title (datum b) = plain_title (codes "DCS") [] (codes "of another kind")
value_title exit = plain_title (codes "DCS") [] (codes "of another kind")
