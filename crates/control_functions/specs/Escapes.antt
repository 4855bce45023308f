-- The control functions of escape sequences and C1 controls, and their keys.
use Rattle.std.specs.Prelude.{ℕ, ◌+◌, ◌-◌, ◌*◌, Bool, ◌==◌, ◌||◌, if◌then◌else◌, List, [], ◌∷◌, map, get_or, Option, Some, None}
use Rattle.esc_values.specs.Params.{is_from}
use Rattle.control_functions.specs.Rows.{first_grouped, group}
use Rattle.control_functions.specs.declared.row.Row.{Row}
use Rattle.control_functions.specs.declared.escape_function.EscapeFunction.{EscapeFunction}
use Rattle.control_functions.specs.declared.escape_table.TheConstants.{NAMES, ROWS, STARTS, WORDS}
use Rattle.control_functions.specs.contracts.escape_function.EscapeFunction.{the_type}
use Rattle.control_functions.specs.declared.escape_function.EscapeFunction.TheVariants as variant
use Rattle.esc_sequences.specs.declared.esc.Esc.{Esc}
use Rattle.esc_sequences.specs.declared.esc.Esc.TheVariants as esc
use Rattle.esc_sequences.specs.declared.esc_code.EscCode.TheVariants as code
use denote.Enum.Declared.{tag_of}

-- the place of a function's row: functions and rows are in one order
unfoldable pub place : EscapeFunction → ℕ
place f = tag_of the_type f

-- the key of a function: the bytes of its sequence after ESC, as one number
unfoldable pub key_of : EscapeFunction → ℕ
key_of f = get_or (map (λ r. r.key) ROWS) (place f) 0

-- its name, and its description in words
unfoldable pub name_of : EscapeFunction → List ℕ
name_of f = get_or (map (λ n. n.now) NAMES) (place f) []

unfoldable pub words_of : EscapeFunction → List ℕ
words_of f = get_or (map (λ w. w.now) WORDS) (place f) []

-- the rows of a last byte, from space on
unfoldable pub rows_of : ℕ → List (Row EscapeFunction)
rows_of i = group ROWS STARTS i

-- the function that has this key, among the rows whose sequence ends in the last byte of the key
unfoldable pub function_of : ℕ → Option EscapeFunction
function_of k = first_grouped (λ r. r.key) (λ r. r.function) rows_of 0x20 k

-- the intermediates `!` `"` `$` `&` and `(` to `/` but `,` designate a set, which the final byte
-- names
abbrev pub designates : ℕ → Bool
designates i = (i == 0x21) || ((i == 0x22) || ((i == 0x24) || ((i == 0x26) || (is_from 0x28 0x2b i
    || is_from 0x2d 0x2f i))))

-- the key of an escape sequence with this intermediate, if there is one, and this final byte
abbrev pub sequence_key : Option ℕ → ℕ → ℕ
sequence_key None last = 256 + last
sequence_key (Some i) last = if designates i then 256 + i else (256 + i) * 256 + last

-- after `$` another intermediate says as which of G0 to G3 a set of several bytes is designated,
-- and after `%` that a coding system is designated without a return
abbrev pub leads : ℕ → Bool
leads i = (i == 0x24) || (i == 0x25)

-- the key of an escape sequence with these two intermediates: if the first designates a set, the
-- second is a part of the set's name; nobody knows a function of any other sequence
abbrev pub two_key : ℕ → ℕ → ℕ
two_key i j = if leads i then (256 + i) * 256 + j else if designates i then 256 + i else 0

-- the key of an escape sequence with these intermediates and this final byte
abbrev pub intermediates_key : List ℕ → ℕ → ℕ
intermediates_key [] last = sequence_key None last
intermediates_key (i ∷ []) last = sequence_key (Some i) last
intermediates_key (i ∷ j ∷ more) last = two_key i j

-- the function of an escape sequence
abbrev pub escape_of_name : Esc → Option EscapeFunction
escape_of_name (esc.Code code.StringTerminator) = Some variant.ST
escape_of_name (esc.Code code.HorizontalTabSet) = Some variant.HTS
escape_of_name (esc.Code code.TmuxTitle) = Some variant.TITLE
escape_of_name (esc.Unspecified i last) = function_of (sequence_key i last)

-- the function of a C1 control: that of ESC and the byte 40 less
abbrev pub named_c1 : ℕ → Option EscapeFunction
named_c1 c = if is_from 0x80 0x9f c then function_of (256 + (c - 0x40)) else None
