-- The codes of commands and their texts.
use Rattle.std.specs.Prelude.{ℕ, ◌+◌, ◌*◌, ◌-◌, ◌==◌, nat_eq, nat_le, ◌&&◌, if◌then◌else◌, List, [], ◌∷◌, map, get_or, take, slice_index, Option, Some, None}
use Rattle.std.specs.Cmp.Lexicographic.{pointwise}
use Rattle.esc_values.specs.Scalars.{and_then, number_of}
use Rattle.esc_osc_values.specs.declared.code.OperatingSystemCommandCode.{OperatingSystemCommandCode}
use Rattle.esc_osc_values.specs.declared.code.OperatingSystemCommandCode.TheVariants as code
use Rattle.esc_osc_values.specs.declared.code.TheConstants.{CODES, TEXTS}
use Rattle.esc_osc_values.specs.contracts.code.OperatingSystemCommandCode.{the_type}
use denote.Enum.Declared.{tag_of}
use Rattle.esc_osc_values.specs.declared.dynamic_color_number.DynamicColorNumber.{DynamicColorNumber}
use Rattle.esc_osc_values.specs.declared.dynamic_color_number.DynamicColorNumber.TheVariants as color

-- the place of a code's row: codes and rows are in one order
abbrev pub place : OperatingSystemCommandCode → ℕ
place c = tag_of the_type c

-- the text of a code
abbrev pub code_text : OperatingSystemCommandCode → List ℕ
code_text c = get_or (map (λ t. t.now) TEXTS) (place c) []

-- the key of a text of one to four bytes: a one and its bytes, as a number in base 256. Every other
-- text has the key zero.
abbrev pub text_key : List ℕ → ℕ
text_key (a ∷ []) = 0x100 + a
text_key (a ∷ b ∷ []) = 0x1_0000 + a * 0x100 + b
text_key (a ∷ b ∷ c ∷ []) = 0x100_0000 + a * 0x1_0000 + b * 0x100 + c
text_key (a ∷ b ∷ c ∷ d ∷ []) =
    0x1_0000_0000 + a * 0x100_0000 + b * 0x1_0000 + c * 0x100 + d
text_key t = 0

-- every code, in the order in which a text is compared with theirs
abbrev pub all_codes : List OperatingSystemCommandCode
all_codes = CODES

-- the first of these codes whose text is t
abbrev pub first_named : List OperatingSystemCommandCode → List ℕ
    → Option OperatingSystemCommandCode
first_named [] t = None
first_named (c ∷ cs) t = if pointwise nat_eq t (code_text c) then Some c else first_named cs t

-- the code whose text is t
unfoldable pub code_of : List ℕ → Option OperatingSystemCommandCode
code_of t = first_named all_codes t

-- the text that names the code, by the first part's lossy text t and the parts after it: t, or
-- its first character if t is alone and begins with no ASCII digit. A code that is no number is one
-- ASCII character, so the first byte names the same code as the first character.
abbrev pub code_name : List ℕ → List (List ℕ) → List ℕ
code_name t [] =
    if nat_le 0x30 (slice_index t 0) && nat_le (slice_index t 0) 0x39 then t else take 1 t
code_name t (p ∷ ps) = t

-- the number of a dynamic colour, that of the code which changes it
abbrev pub color_number : DynamicColorNumber → ℕ
color_number color.TextForegroundColor = 10
color_number color.TextBackgroundColor = 11
color_number color.TextCursorColor = 12
color_number color.MouseForegroundColor = 13
color_number color.MouseBackgroundColor = 14
color_number color.TektronixForegroundColor = 15
color_number color.TektronixBackgroundColor = 16
color_number color.HighlightBackgroundColor = 17
color_number color.TektronixCursorColor = 18
color_number color.HighlightForegroundColor = 19

-- the dynamic colours
abbrev pub all_colors : List DynamicColorNumber
all_colors = color.TextForegroundColor ∷ color.TextBackgroundColor ∷ color.TextCursorColor
    ∷ color.MouseForegroundColor ∷
    color.MouseBackgroundColor ∷ color.TektronixForegroundColor ∷ color.TektronixBackgroundColor ∷
    color.HighlightBackgroundColor ∷ color.TektronixCursorColor ∷ color.HighlightForegroundColor
    ∷ []

-- the first of these colours that has the number n
abbrev pub first_numbered : List DynamicColorNumber → ℕ → Option DynamicColorNumber
first_numbered [] n = None
first_numbered (c ∷ cs) n = if n == color_number c then Some c else first_numbered cs n

-- the dynamic colour whose number is n
abbrev pub color_of : ℕ → Option DynamicColorNumber
color_of n = first_numbered all_colors n

-- the code that changes a dynamic colour
abbrev pub change_code : DynamicColorNumber → OperatingSystemCommandCode
change_code color.TextForegroundColor = code.SetTextForegroundColor
change_code color.TextBackgroundColor = code.SetTextBackgroundColor
change_code color.TextCursorColor = code.SetTextCursorColor
change_code color.MouseForegroundColor = code.SetMouseForegroundColor
change_code color.MouseBackgroundColor = code.SetMouseBackgroundColor
change_code color.TektronixForegroundColor = code.SetTektronixForegroundColor
change_code color.TektronixBackgroundColor = code.SetTektronixBackgroundColor
change_code color.HighlightBackgroundColor = code.SetHighlightBackgroundColor
change_code color.TektronixCursorColor = code.SetTektronixCursorColor
change_code color.HighlightForegroundColor = code.SetHighlightForegroundColor

-- the code that resets it
abbrev pub reset_code : DynamicColorNumber → OperatingSystemCommandCode
reset_code color.TextForegroundColor = code.ResetTextForegroundColor
reset_code color.TextBackgroundColor = code.ResetTextBackgroundColor
reset_code color.TextCursorColor = code.ResetTextCursorColor
reset_code color.MouseForegroundColor = code.ResetMouseForegroundColor
reset_code color.MouseBackgroundColor = code.ResetMouseBackgroundColor
reset_code color.TektronixForegroundColor = code.ResetTektronixForegroundColor
reset_code color.TektronixBackgroundColor = code.ResetTektronixBackgroundColor
reset_code color.HighlightBackgroundColor = code.ResetHighlightColor
reset_code color.TektronixCursorColor = code.ResetTektronixCursorColor
reset_code color.HighlightForegroundColor = code.ResetHighlightForegroundColor

-- the dynamic colour that a code changes: that of its number
abbrev pub changed_by : OperatingSystemCommandCode → Option DynamicColorNumber
changed_by c = and_then (number_of 8 (code_text c)) color_of

-- the dynamic colour that a code resets: that of its number less 100
abbrev pub reset_by : OperatingSystemCommandCode → Option DynamicColorNumber
reset_by c = and_then (number_of 8 (code_text c)) (λ n. color_of (n - 100))
