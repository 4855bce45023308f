-- The text that a stream prints.
use Rattle.std.specs.Prelude.{ℕ, ◌*◌, ◌-◌, ◌==◌, min, Bool, false, ◌&&◌, if◌then◌else◌, List, length, get_or, Some}
use Rattle.std.specs.Char.{len_utf8}
use Rattle.std.specs.List.{sum_by}
use Rattle.esc_actions.specs.Meaning.{meaning_within}
use Rattle.esc_actions.specs.Values.{Value, csi, esc, print}
use Rattle.esc_sequences.specs.Csis.{CsiValue, sgr, unspecified}
use Rattle.esc_values.specs.declared.csi_param.CsiParam.{CsiParam}
use Rattle.esc_values.specs.declared.csi_param.CsiParam.TheVariants.{Integer, P}
use Rattle.typed_functions.specs.Counts.{one_based}
use Rattle.typed_functions.specs.Escapes.{of_escape}
use Rattle.typed_functions.specs.Functions.{Value as Function, edit, escape, of_csi}
use Rattle.typed_functions.specs.declared.edit.Edit.{Edit}
use Rattle.typed_functions.specs.declared.edit.Edit.TheVariants as edits
use Rattle.typed_functions.specs.declared.escape.Escape.{Escape}
use Rattle.typed_functions.specs.declared.escape.Escape.TheVariants as escapes
use Rattle.line_collapse.specs.Amounts.{up_to_most}

-- The characters that a function makes at most, on a screen of so many rows and columns: REP
-- repeats one up to the number of columns, and DECALN draws one in each cell.
abbrev pub repeated_by : ℕ → Edit → ℕ
repeated_by columns (edits.Repeat n) = min (one_based n) columns
repeated_by columns _ = 0

abbrev pub drawn_by : ℕ → ℕ → Escape → ℕ
drawn_by rows columns escapes.DecScreenAlignmentDisplay = up_to_most (rows * columns)
drawn_by rows columns _ = 0

abbrev pub made_by : ℕ → ℕ → Function → ℕ
made_by rows columns (edit e) = repeated_by columns e
made_by rows columns (escape e) = drawn_by rows columns e
made_by rows columns _ = 0

-- Whether a control sequence is DECFRA, which draws one in each cell of a rectangle.
abbrev pub is_dollar : CsiParam → Bool
is_dollar (P b) = b == 0x24
is_dollar (Integer i) = false

abbrev pub fills : CsiValue → Bool
fills (sgr s) = false
fills (unspecified es truncated last) = last == 0x78
    && is_dollar (get_or es (length es - 1) (P 0))

abbrev pub made_in : ℕ → ℕ → CsiValue → ℕ
made_in rows columns c = if fills c then up_to_most (rows * columns)
    else made_by rows columns (of_csi c)

-- those that a value prints, or makes at most
abbrev pub chars_of : {A : Type 0} → ℕ → ℕ → Value A → ℕ
chars_of rows columns (print c) = 1
chars_of rows columns (esc e) = made_by rows columns (of_escape e)
chars_of rows columns (csi c) = made_in rows columns c
chars_of rows columns _ = 0

-- the bytes of the one that it prints
abbrev pub bytes_of : {A : Type 0} → Value A → ℕ
bytes_of (print c) = len_utf8 c
bytes_of _ = 0

-- the same of values, one after another
abbrev pub printed_chars : {A : Type 0} → ℕ → ℕ → List (Value A) → ℕ
printed_chars rows columns vs = sum_by (chars_of rows columns) vs

abbrev pub printed_bytes : {A : Type 0} → List (Value A) → ℕ
printed_bytes vs = sum_by bytes_of vs

-- the values of a stream, as a terminal reads it
abbrev pub values_of : (A : Type 0) → List ℕ → List (Value A)
values_of A s = meaning_within {A = A} (Some 0x1000) s
