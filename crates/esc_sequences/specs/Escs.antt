-- Escape sequences: how they are read and written.
use Rattle.std.specs.Prelude.{ℕ, ◌==◌, if◌then◌else◌, List, [], ◌∷◌, ◌++◌, Option, Some, None}
use Rattle.std.specs.Char.{encode_utf8}
use Rattle.esc_sequences.specs.declared.esc.Esc.{Esc}
use Rattle.esc_sequences.specs.declared.esc.Esc.TheVariants as esc
use Rattle.esc_sequences.specs.declared.esc_code.EscCode.TheVariants as code

-- the value of an intermediate and a final byte: with no intermediate `\`, `H` and `k` have names
abbrev pub esc_of : Option ℕ → ℕ → Esc
esc_of None c = if c == 0x5c then esc.Code code.StringTerminator
    else if c == 0x48 then esc.Code code.HorizontalTabSet
    else if c == 0x6b then esc.Code code.TmuxTitle
    else esc.Unspecified None c
esc_of (Some i) c = esc.Unspecified (Some i) c

-- the bytes after ESC
abbrev pub final_text : Esc → List ℕ
final_text (esc.Code code.StringTerminator) = 0x5c ∷ []
final_text (esc.Code code.HorizontalTabSet) = 0x48 ∷ []
final_text (esc.Code code.TmuxTitle) = 0x6b ∷ []
final_text (esc.Unspecified None c) = encode_utf8 c
final_text (esc.Unspecified (Some i) c) = encode_utf8 i ++ encode_utf8 c

-- the text of an escape sequence
abbrev pub esc_text : Esc → List ℕ
esc_text e = 0x1b ∷ final_text e
