-- The control functions of control sequences, and their keys.
use Rattle.std.specs.Prelude.{ℕ, ◌+◌, ◌*◌, Bool, ◌==◌, ◌&&◌, ◌||◌, nat_le, if◌then◌else◌, List, [], ◌∷◌, map, length, get_or, Option, Some, None}
use Rattle.esc_values.specs.declared.csi_param.CsiParam.{CsiParam}
use Rattle.esc_values.specs.declared.csi_param.CsiParam.TheVariants.{Integer, P}
use Rattle.control_functions.specs.Rows.{base_256, first_grouped, group}
use Rattle.control_functions.specs.declared.row.Row.{Row}
use Rattle.control_functions.specs.declared.control_function.ControlFunction.{ControlFunction}
use Rattle.control_functions.specs.declared.control_table.TheConstants.{NAMES, ROWS, STARTS, WORDS}
use Rattle.control_functions.specs.contracts.control_function.ControlFunction.{the_type}
use Rattle.control_functions.specs.declared.control_function.ControlFunction.TheVariants as variant
use Rattle.esc_sequences.specs.Csis.{CsiValue, sgr, unspecified}
use denote.Enum.Declared.{tag_of}

-- the place of a function's row: functions and rows are in one order
unfoldable pub place : ControlFunction → ℕ
place f = tag_of the_type f

-- the key of a function: the bytes of its sequence but its parameters, as one number
unfoldable pub key_of : ControlFunction → ℕ
key_of f = get_or (map (λ r. r.key) ROWS) (place f) 0

-- its name, and its description in words
unfoldable pub name_of : ControlFunction → List ℕ
name_of f = get_or (map (λ n. n.now) NAMES) (place f) []

unfoldable pub words_of : ControlFunction → List ℕ
words_of f = get_or (map (λ w. w.now) WORDS) (place f) []

-- the rows of a final byte, from `@` on
unfoldable pub rows_of : ℕ → List (Row ControlFunction)
rows_of i = group ROWS STARTS i

-- the function that has this key, among the rows whose sequence ends in the last byte of the key
unfoldable pub function_of : ℕ → Option ControlFunction
function_of k = first_grouped (λ r. r.key) (λ r. r.function) rows_of 0x40 k

-- a private prefix or an intermediate: any byte of a body but digits, `;` and `:`
abbrev pub mark_of : CsiParam → Option ℕ
mark_of (Integer n) = None
mark_of (P b) = if (b == 0x3b) || (b == 0x3a) then None else Some b

abbrev pub put_mark : Option ℕ → List ℕ → List ℕ
put_mark None ms = ms
put_mark (Some b) ms = b ∷ ms

-- those of a body, in order
abbrev pub marks : List CsiParam → List ℕ
marks [] = []
marks (e ∷ es) = put_mark (mark_of e) (marks es)

-- three final bytes have two functions each, which differ in how much they say: `T` scrolls down,
-- and with more than one parameter tracks a highlight; `s` and `u` save and restore the cursor, and
-- with any parameter set margins and report a key
abbrev pub is_long : ℕ → ℕ → Bool
is_long last n = ((last == 0x54) && nat_le 2 n)
    || (((last == 0x73) || (last == 0x75)) && nat_le 1 n)

-- the beginning of the key of a sequence, by its marks, packed, its count of parameters and its
-- final byte
abbrev pub key_beginning : ℕ → ℕ → ℕ → ℕ
key_beginning m n last = if (m == 1) && is_long last n then 2 else m

abbrev pub key_with : ℕ → ℕ → ℕ → ℕ
key_with m n last = 256 * key_beginning m n last + last

-- the key of a sequence of these parameters and this final byte
abbrev pub sequence_key : List CsiParam → ℕ → ℕ
sequence_key es last = key_with (base_256 1 (marks es)) (length es) last

-- the function of a control sequence; none if parameters were left out, since an intermediate may
-- be among them
abbrev pub function_of_csi : CsiValue → Option ControlFunction
function_of_csi (sgr s) = Some variant.SGR
function_of_csi (unspecified es more last) = if more then None
    else function_of (sequence_key es last)
