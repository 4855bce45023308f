-- Which values are asked of a parser whether they read back.
use Rattle.std.specs.Prelude.{Bool, true, false}
use Rattle.esc_actions.specs.Values.{Value, print, string, control, esc, csi, osc, kitty, sixel, termcap, short, enter, datum, exit}

-- a value that is the first value of its own text, if it is writable: a string of characters means
-- its characters, and a byte and the end of a mode mean nothing outside it
abbrev pub has_own_text : {A : Type 0} → Value A → Bool
has_own_text (print c) = true
has_own_text (string t) = false
has_own_text (control c) = true
has_own_text (esc e) = true
has_own_text (csi c) = true
has_own_text (osc c) = true
has_own_text (kitty i) = true
has_own_text (sixel s) = true
has_own_text (termcap ns) = true
has_own_text (short s) = true
has_own_text (enter e) = true
has_own_text (datum b) = false
has_own_text exit = false

-- a value whose text alone shows whether it is writable
abbrev pub wants_text : {A : Type 0} → Value A → Bool
wants_text (print c) = false
wants_text (string t) = false
wants_text (control c) = false
wants_text (esc e) = true
wants_text (csi c) = true
wants_text (osc c) = true
wants_text (kitty i) = true
wants_text (sixel s) = true
wants_text (termcap ns) = true
wants_text (short s) = true
wants_text (enter e) = true
wants_text (datum b) = false
wants_text exit = false
