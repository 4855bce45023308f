-- The typed values of escape sequences.
use Rattle.std.specs.Prelude.{ℕ, ◌-◌, ◌/◌, ◌%◌, ◌<◌, nat_le, if◌then◌else◌, List, [], ◌∷◌, get_or, Option, Some, None, Result, Ok, Err}
use Rattle.std.specs.Option.{option_map}
use Rattle.esc_values.specs.Params.{is_from}
use Rattle.esc_sequences.specs.Escs.{esc_of}
use Rattle.esc_sequences.specs.declared.esc.Esc.{Esc}
use Rattle.esc_sequences.specs.declared.esc.Esc.TheVariants as esc
use Rattle.esc_sequences.specs.declared.esc_code.EscCode.TheVariants as code
use Rattle.control_functions.specs.declared.escape_function.EscapeFunction.{EscapeFunction}
use Rattle.control_functions.specs.declared.escape_function.EscapeFunction.TheVariants as functions
use Rattle.control_functions.specs.Escapes.{function_of, key_of, sequence_key, two_key, place as function_place}
use Rattle.typed_functions.specs.declared.escape.Escape.{Escape}
use Rattle.typed_functions.specs.declared.escape_table.TheConstants.{ESCAPES, FUNCTIONS}
use Rattle.typed_functions.specs.contracts.escape.Escape.{the_type}
use Rattle.typed_functions.specs.declared.charset.Charset.{Charset}
use Rattle.typed_functions.specs.declared.charset.Charset.TheVariants as charsets
use Rattle.typed_functions.specs.declared.unfit.Unfit.{Unfit}
use Rattle.typed_functions.specs.declared.unfit.Unfit.TheVariants as unfit
use Rattle.typed_functions.specs.Arguments.{in_range}
use Rattle.typed_functions.specs.Charsets.{charset94_at, charset96_at, multibyte_at, pair_at, short_at}
use Rattle.typed_functions.specs.Functions.{Value, charset, escape, other}
use denote.Enum.Declared.{tag_of}

-- the place of a typed value in its table
unfoldable pub place : Escape → ℕ
place e = tag_of the_type e

-- the function of a typed value
unfoldable pub function_for : Escape → EscapeFunction
function_for e = get_or FUNCTIONS (place e) functions.ST

-- the typed value of a function, if it has one
unfoldable pub escape_of : EscapeFunction → Option Escape
escape_of f = get_or ESCAPES (function_place f) None

-- the intermediate, if there is one, and the final byte of a key
abbrev pub bytes_of_key : ℕ → Option ℕ × ℕ
bytes_of_key k = if nat_le 0x1_0000 k then (Some (k / 256 % 256), k % 256) else (None, k % 256)

abbrev pub escape_bytes : Escape → Option ℕ × ℕ
escape_bytes e = bytes_of_key (key_of (function_for e))

-- the sequence that asks for it
abbrev pub escape_sequence : Escape → Esc
escape_sequence e = esc_of (escape_bytes e).0 (escape_bytes e).1

-- the set that a function designates by this final byte
abbrev pub charset_by_final : EscapeFunction → ℕ → Result Charset Unfit
charset_by_final functions.GZD4 b = in_range (option_map charsets.G0 (charset94_at b))
charset_by_final functions.G1D4 b = in_range (option_map charsets.G1 (charset94_at b))
charset_by_final functions.G2D4 b = in_range (option_map charsets.G2 (charset94_at b))
charset_by_final functions.G3D4 b = in_range (option_map charsets.G3 (charset94_at b))
charset_by_final functions.G1D6 b = in_range (option_map charsets.G1Of96 (charset96_at b))
charset_by_final functions.G2D6 b = in_range (option_map charsets.G2Of96 (charset96_at b))
charset_by_final functions.G3D6 b = in_range (option_map charsets.G3Of96 (charset96_at b))
charset_by_final functions.GZDM4 b = in_range (option_map charsets.G0Multibyte (short_at b))
charset_by_final _ b = Err unfit.Untyped

-- the set that a function of two intermediates designates by its second intermediate and this final
-- byte
abbrev pub multibyte_designated : EscapeFunction → ℕ → Result Charset Unfit
multibyte_designated functions.GZDM4_LONG b =
    in_range (option_map charsets.G0Multibyte (multibyte_at b))
multibyte_designated functions.G1DM4 b =
    in_range (option_map charsets.G1Multibyte (multibyte_at b))
multibyte_designated functions.G2DM4 b =
    in_range (option_map charsets.G2Multibyte (multibyte_at b))
multibyte_designated functions.G3DM4 b =
    in_range (option_map charsets.G3Multibyte (multibyte_at b))
multibyte_designated _ b = Err unfit.Untyped

abbrev pub designated_by_two : EscapeFunction → ℕ → ℕ → Result Charset Unfit
designated_by_two functions.GZD4 j b = in_range (option_map charsets.G0Pair (pair_at j b))
designated_by_two functions.G1D4 j b = in_range (option_map charsets.G1Pair (pair_at j b))
designated_by_two functions.G2D4 j b = in_range (option_map charsets.G2Pair (pair_at j b))
designated_by_two functions.G3D4 j b = in_range (option_map charsets.G3Pair (pair_at j b))
designated_by_two f j b = multibyte_designated f b

abbrev pub set_of : Result Charset Unfit → Value
set_of (Ok c) = charset c
set_of (Err u) = other u

abbrev pub escape_value : Option Escape → EscapeFunction → ℕ → Value
escape_value (Some e) f b = escape e
escape_value None f b = set_of (charset_by_final f b)

abbrev pub of_function : Option EscapeFunction → ℕ → Value
of_function None b = other unfit.Unnamed
of_function (Some f) b = escape_value (escape_of f) f b

-- the value of an escape sequence of this intermediate, if there is one, and this final byte
abbrev pub of_bytes : Option ℕ → ℕ → Value
of_bytes i b = of_function (function_of (sequence_key i b)) b

-- the value of a function of two intermediates
abbrev pub of_two : Option EscapeFunction → ℕ → ℕ → Value
of_two None j b = other unfit.Unnamed
of_two (Some f) j b = set_of (designated_by_two f j b)

-- the value of an escape sequence of these intermediates and this final byte: if there are two, it
-- is not that of the second alone
abbrev pub of_intermediates : List ℕ → ℕ → Value
of_intermediates [] b = of_bytes None b
of_intermediates (i ∷ []) b = of_bytes (Some i) b
of_intermediates (i ∷ j ∷ more) b = of_two (function_of (two_key i j)) j b

-- the value of an escape sequence
abbrev pub of_escape : Esc → Value
of_escape (esc.Code code.StringTerminator) = of_bytes None 0x5c
of_escape (esc.Code code.HorizontalTabSet) = of_bytes None 0x48
of_escape (esc.Code code.TmuxTitle) = of_bytes None 0x6b
of_escape (esc.Unspecified i b) = of_bytes i b

-- the value of a C1 control: that of ESC and the byte 40 less
abbrev pub of_c1 : ℕ → Value
of_c1 c = if is_from 0x80 0x9f c then of_bytes None (c - 0x40) else other unfit.Unnamed

-- bytes; the first may be missing
abbrev pub AreBytes : Option ℕ → ℕ → Type 0
AreBytes None b = b < 256
AreBytes (Some i) b = (i < 256) × (b < 256)
