-- The texts of values and of lists of them, and normal lists.
use Rattle.std.specs.Prelude.{ℕ, Bool, true, false, not, ◌&&◌, if◌then◌else◌, List, [], ◌∷◌, ◌++◌, map, Option, Some, None}
use Rattle.std.specs.Char.{encode_utf8}
use Rattle.std.specs.List.{list_all}
use Rattle.std.specs.Str.{chars}
use Rattle.esc_sequences.specs.declared.esc.Esc.TheVariants as esc_variant
use Rattle.esc_sequences.specs.declared.esc_code.EscCode.TheVariants as esc_code
use Rattle.esc_sequences.specs.Csis.{csi_text}
use Rattle.esc_sequences.specs.Escs.{esc_text}
use Rattle.esc_device.specs.Texts.{enter_text, short_text}
use Rattle.esc_kitty.specs.Texts.{image_text}
use Rattle.esc_osc.specs.Commands.{command_text}
use Rattle.esc_sixel.specs.Texts.{is_sixel, sixel_text}
use Rattle.xtgettcap.specs.Names.{query_text}
use Rattle.esc_actions.specs.ControlCodes.{code_number}
use Rattle.esc_actions.specs.Values.{Value, print, string, control, esc, csi, osc, kitty, sixel, termcap, short, enter, datum, exit}
use Rattle.esc_values.specs.Clear.{string_terminator}

-- the text of a value
abbrev pub value_text : {A : Type 0} → Value A → List ℕ
value_text (print c) = encode_utf8 c
value_text (string t) = t
value_text (control c) = encode_utf8 (code_number c)
value_text (esc e) = esc_text e
value_text (csi c) = csi_text c
value_text (osc c) = command_text c
value_text (kitty i) = image_text i
value_text (sixel s) = sixel_text s
value_text (termcap ns) = query_text ns
value_text (short s) = short_text s
value_text (enter e) = enter_text e
value_text (datum b) = encode_utf8 b
value_text exit = []

-- whether it can be written: an image with a value over 63 cannot
abbrev pub has_text : {A : Type 0} → Value A → Bool
has_text (sixel s) = list_all is_sixel s.content
has_text _ = true

-- its text, and none if it cannot be written
abbrev pub value_output : {A : Type 0} → Value A → Option (List ℕ)
value_output v = if has_text v then Some (value_text v) else None

-- a string action: one whose text a string terminator ends
abbrev pub is_string : {A : Type 0} → Value A → Bool
is_string (osc c) = true
is_string (kitty i) = true
is_string (sixel s) = true
is_string (termcap ns) = true
is_string (short s) = true
is_string exit = true
is_string _ = false

abbrev pub terminator : {A : Type 0} → Value A
terminator = esc (esc_variant.Code esc_code.StringTerminator)

abbrev pub is_terminator : {A : Type 0} → Value A → Bool
is_terminator (esc (esc_variant.Code esc_code.StringTerminator)) = true
is_terminator _ = false

abbrev pub begins_terminator : {A : Type 0} → List (Value A) → Bool
begins_terminator [] = false
begins_terminator (v ∷ vs) = is_terminator v

-- a string action whose own text leaves the string open
abbrev pub is_left_open : {A : Type 0} → Value A → Bool
is_left_open (kitty i) = true
is_left_open (sixel s) = true
is_left_open (termcap ns) = true
is_left_open exit = true
is_left_open _ = false

-- the text of a value with the string terminator that ends it
abbrev pub whole_text : {A : Type 0} → Value A → List ℕ
whole_text v = if is_left_open v then value_text v ++ string_terminator else value_text v

-- the text of a value in a list; `follows` says that it comes directly after a string action: there
-- a string terminator is the one that ends this action's text, and adds none
abbrev pub text_after : {A : Type 0} → Bool → Value A → List ℕ
text_after follows v = if is_terminator v && follows then [] else whole_text v

abbrev pub texts_after : {A : Type 0} → Bool → List (Value A) → List ℕ
texts_after follows [] = []
texts_after follows (v ∷ vs) = text_after follows v ++ texts_after (is_string v) vs

-- the text of a list: its texts, one after another
abbrev pub list_text : {A : Type 0} → List (Value A) → List ℕ
list_text vs = texts_after false vs

-- a string of characters as its characters
abbrev pub spelled_values : {A : Type 0} → Value A → List (Value A)
spelled_values (string t) = map print (chars t)
spelled_values v = v ∷ []

-- the normal list: each string of characters as its characters, and a string terminator after each
-- string action that has none directly after it
abbrev pub normal : {A : Type 0} → List (Value A) → List (Value A)
normal [] = []
normal (v ∷ vs) = spelled_values v ++ (if is_string v && not (begins_terminator vs) then terminator
    ∷ [] else []) ++ normal vs
