-- The row of a control function.
use Rattle.std.specs.Prelude.{ℕ, ◌≡◌, Bool, true, false, ◌==◌, if◌then◌else◌, List, [], ◌++◌, take, drop, length, replicate, Option, None, Some}
use Rattle.control_functions.specs.declared.control_function.ControlFunction.{ControlFunction}
use Rattle.control_functions.specs.declared.escape_function.EscapeFunction.{EscapeFunction}
use Rattle.control_functions.specs.declared.c0.C0.{C0}
use Rattle.control_functions.specs.Controls.{changes_screen as control_changes_screen, is_answered as control_is_answered, name_of as control_name_of, words_of as control_words_of}
use Rattle.control_functions.specs.Effects.{changes_screen, is_answered}
use Rattle.control_functions.specs.EscapeEffects.{changes_screen as escape_changes_screen, is_answered as escape_is_answered}
use Rattle.control_functions.specs.Escapes.{function_of as escape_function_of, name_of as escape_name_of, sequence_key as escape_sequence_key, words_of as escape_words_of}
use Rattle.control_functions.specs.Functions.{function_of, key_with, name_of, put_mark, words_of}
use Rattle.control_functions.specs.Rows.{base_256}
use Rattle.esc_calls.specs.declared.function_row.FunctionRow.{FunctionRow}

-- a byte; 0 says that there is none
abbrev pub byte_of : ℕ → Option ℕ
byte_of b = if b == 0 then None else Some b

-- the function of a control sequence with this private prefix, this intermediate, so many entries
-- and this final byte
abbrev pub function_with : ℕ → ℕ → ℕ → ℕ → Option ControlFunction
function_with prefix intermediate count last =
    let marks = base_256 1 (put_mark (byte_of prefix) (put_mark (byte_of intermediate) [])) in
    function_of (key_with marks count last)

-- the function of an escape sequence with this intermediate and this final byte
abbrev pub escape_function_with : ℕ → ℕ → Option EscapeFunction
escape_function_with intermediate last =
    escape_function_of (escape_sequence_key (byte_of intermediate) last)

-- n bytes: a text, as much of it as fits, and zeros
abbrev pub padded_bytes : ℕ → List ℕ → List ℕ
padded_bytes n t = take n t ++ drop (length t) (replicate n 0)

-- the row r has the name n, the words w and these flags
pub record IsRow (r : FunctionRow) (n w : List ℕ) (screen answered : Bool) : Type 0 where
  pub named : r.name ≡ padded_bytes 16 n
  pub worded : r.phrase ≡ padded_bytes 80 w
  pub changes : r.changes_screen ≡ screen
  pub answers : r.is_answered ≡ answered

-- the output for a function is its row, and for none that there is none, with a row of zeros
abbrev pub Says : Option ControlFunction → FunctionRow → Bool → Type 0
Says None r there = IsRow r [] [] false false × (there ≡ false)
Says (Some f) r there =
    IsRow r (name_of f) (words_of f) (changes_screen f) (is_answered f) × (there ≡ true)

abbrev pub SaysEscape : Option EscapeFunction → FunctionRow → Bool → Type 0
SaysEscape None r there = IsRow r [] [] false false × (there ≡ false)
SaysEscape (Some f) r there =
    IsRow r (escape_name_of f) (escape_words_of f) (escape_changes_screen f) (escape_is_answered f)
    × (there ≡ true)

abbrev pub SaysControl : Option C0 → FunctionRow → Bool → Type 0
SaysControl None r there = IsRow r [] [] false false × (there ≡ false)
SaysControl (Some c) r there =
    IsRow r (control_name_of c) (control_words_of c) (control_changes_screen c)
    (control_is_answered c) × (there ≡ true)
