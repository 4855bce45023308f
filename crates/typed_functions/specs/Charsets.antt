-- Character sets, by the bytes that designate them.
use Rattle.std.specs.Prelude.{ℕ, ◌==◌, ◌&&◌, nat_le, Bool, if◌then◌else◌, List, [], ◌∷◌, ◌++◌, Option, Some, None}
use Rattle.std.specs.Char.{encode_utf8}
use Rattle.esc_sequences.specs.Escs.{esc_of}
use Rattle.esc_sequences.specs.declared.esc.Esc.{Esc}
use Rattle.typed_functions.specs.declared.charset.Charset.{Charset}
use Rattle.typed_functions.specs.declared.charset.Charset.TheVariants as charset
use Rattle.typed_functions.specs.declared.charset94.Charset94.{Charset94}
use Rattle.typed_functions.specs.declared.charset94.Charset94.TheVariants as of94
use Rattle.typed_functions.specs.declared.charset96.Charset96.{Charset96}
use Rattle.typed_functions.specs.declared.charset96.Charset96.TheVariants as of96
use Rattle.typed_functions.specs.declared.multibyte_charset.MultibyteCharset.{MultibyteCharset}
use Rattle.typed_functions.specs.declared.multibyte_charset.MultibyteCharset.TheVariants as multibyte
use Rattle.typed_functions.specs.declared.pair_charset.PairCharset.{PairCharset}
use Rattle.typed_functions.specs.declared.pair_charset.PairCharset.TheVariants as pair

-- their final bytes
abbrev pub charset94_byte : Charset94 → ℕ
charset94_byte of94.Ascii = 0x42
charset94_byte of94.UnitedKingdom = 0x41
charset94_byte of94.DecSpecialGraphics = 0x30
charset94_byte of94.DecSupplemental = 0x3c
charset94_byte of94.DecTechnical = 0x3e
charset94_byte of94.AlternateRom = 0x31
charset94_byte of94.AlternateRomGraphics = 0x32
charset94_byte of94.Finnish = 0x43
charset94_byte of94.Finnish5 = 0x35
charset94_byte of94.Swedish = 0x48
charset94_byte of94.Swedish7 = 0x37
charset94_byte of94.German = 0x4b
charset94_byte of94.FrenchCanadian = 0x51
charset94_byte of94.FrenchCanadian9 = 0x39
charset94_byte of94.French = 0x52
charset94_byte of94.FrenchF = 0x66
charset94_byte of94.Italian = 0x59
charset94_byte of94.Spanish = 0x5a
charset94_byte of94.Dutch = 0x34
charset94_byte of94.Swiss = 0x3d
charset94_byte of94.NorwegianDanish = 0x60
charset94_byte of94.NorwegianDanishE = 0x45
charset94_byte of94.NorwegianDanish6 = 0x36
charset94_byte of94.JisKatakana = 0x49
charset94_byte of94.JisRoman = 0x4a

abbrev pub charset94_at : ℕ → Option Charset94
charset94_at b = if b == 0x42 then Some of94.Ascii
    else if b == 0x41 then Some of94.UnitedKingdom
    else if b == 0x30 then Some of94.DecSpecialGraphics
    else if b == 0x3c then Some of94.DecSupplemental
    else if b == 0x3e then Some of94.DecTechnical
    else if b == 0x31 then Some of94.AlternateRom
    else if b == 0x32 then Some of94.AlternateRomGraphics
    else if b == 0x43 then Some of94.Finnish
    else if b == 0x35 then Some of94.Finnish5
    else if b == 0x48 then Some of94.Swedish
    else if b == 0x37 then Some of94.Swedish7
    else if b == 0x4b then Some of94.German
    else if b == 0x51 then Some of94.FrenchCanadian
    else if b == 0x39 then Some of94.FrenchCanadian9
    else if b == 0x52 then Some of94.French
    else if b == 0x66 then Some of94.FrenchF
    else if b == 0x59 then Some of94.Italian
    else if b == 0x5a then Some of94.Spanish
    else if b == 0x34 then Some of94.Dutch
    else if b == 0x3d then Some of94.Swiss
    else if b == 0x60 then Some of94.NorwegianDanish
    else if b == 0x45 then Some of94.NorwegianDanishE
    else if b == 0x36 then Some of94.NorwegianDanish6
    else if b == 0x49 then Some of94.JisKatakana
    else if b == 0x4a then Some of94.JisRoman
    else None

abbrev pub charset96_byte : Charset96 → ℕ
charset96_byte of96.Latin1 = 0x41
charset96_byte of96.Latin2 = 0x42
charset96_byte of96.Latin3 = 0x43
charset96_byte of96.Latin4 = 0x44
charset96_byte of96.Greek = 0x46
charset96_byte of96.Arabic = 0x47
charset96_byte of96.Hebrew = 0x48
charset96_byte of96.Cyrillic = 0x4c
charset96_byte of96.Latin5 = 0x4d

abbrev pub charset96_at : ℕ → Option Charset96
charset96_at b = if b == 0x41 then Some of96.Latin1
    else if b == 0x42 then Some of96.Latin2
    else if b == 0x43 then Some of96.Latin3
    else if b == 0x44 then Some of96.Latin4
    else if b == 0x46 then Some of96.Greek
    else if b == 0x47 then Some of96.Arabic
    else if b == 0x48 then Some of96.Hebrew
    else if b == 0x4c then Some of96.Cyrillic
    else if b == 0x4d then Some of96.Latin5
    else None

abbrev pub multibyte_byte : MultibyteCharset → ℕ
multibyte_byte multibyte.Jis1978 = 0x40
multibyte_byte multibyte.Gb2312 = 0x41
multibyte_byte multibyte.Jis1983 = 0x42
multibyte_byte multibyte.KsX1001 = 0x43
multibyte_byte multibyte.JisX0212 = 0x44
multibyte_byte multibyte.IsoIr165 = 0x45
multibyte_byte multibyte.Cns1 = 0x47
multibyte_byte multibyte.Cns2 = 0x48
multibyte_byte multibyte.Cns3 = 0x49
multibyte_byte multibyte.Cns4 = 0x4a
multibyte_byte multibyte.Cns5 = 0x4b
multibyte_byte multibyte.Cns6 = 0x4c
multibyte_byte multibyte.Cns7 = 0x4d
multibyte_byte multibyte.JisX0213Plane1 = 0x4f
multibyte_byte multibyte.JisX0213Plane2 = 0x50
multibyte_byte multibyte.JisX0213Of2004 = 0x51

abbrev pub multibyte_at : ℕ → Option MultibyteCharset
multibyte_at b = if b == 0x40 then Some multibyte.Jis1978
    else if b == 0x41 then Some multibyte.Gb2312
    else if b == 0x42 then Some multibyte.Jis1983
    else if b == 0x43 then Some multibyte.KsX1001
    else if b == 0x44 then Some multibyte.JisX0212
    else if b == 0x45 then Some multibyte.IsoIr165
    else if b == 0x47 then Some multibyte.Cns1
    else if b == 0x48 then Some multibyte.Cns2
    else if b == 0x49 then Some multibyte.Cns3
    else if b == 0x4a then Some multibyte.Cns4
    else if b == 0x4b then Some multibyte.Cns5
    else if b == 0x4c then Some multibyte.Cns6
    else if b == 0x4d then Some multibyte.Cns7
    else if b == 0x4f then Some multibyte.JisX0213Plane1
    else if b == 0x50 then Some multibyte.JisX0213Plane2
    else if b == 0x51 then Some multibyte.JisX0213Of2004
    else None

-- `ESC $` and the final byte alone designate it as G0
abbrev pub is_short : MultibyteCharset → Bool
is_short c = nat_le (multibyte_byte c) 0x42

-- the set of several bytes that is designated so by this final byte
abbrev pub short_at : ℕ → Option MultibyteCharset
short_at b = if nat_le b 0x42 then multibyte_at b else None

-- the intermediate and the final byte that name a set of 94 characters
abbrev pub pair_first : PairCharset → ℕ
pair_first pair.Greek = 0x22
pair_first pair.DecHebrew = 0x22
pair_first pair.DecGreek = 0x22
pair_first pair.DecTurkish = 0x25
pair_first pair.Turkish = 0x25
pair_first pair.Scs = 0x25
pair_first pair.DecSupplementalGraphics = 0x25
pair_first pair.Portuguese = 0x25
pair_first pair.Hebrew = 0x25
pair_first pair.DecCyrillic = 0x26
pair_first pair.DecRussian = 0x26

abbrev pub pair_last : PairCharset → ℕ
pair_last pair.Greek = 0x3e
pair_last pair.DecHebrew = 0x34
pair_last pair.DecGreek = 0x3f
pair_last pair.DecTurkish = 0x30
pair_last pair.Turkish = 0x32
pair_last pair.Scs = 0x33
pair_last pair.DecSupplementalGraphics = 0x35
pair_last pair.Portuguese = 0x36
pair_last pair.Hebrew = 0x3d
pair_last pair.DecCyrillic = 0x34
pair_last pair.DecRussian = 0x35

abbrev pub pair_at : ℕ → ℕ → Option PairCharset
pair_at i b = if (i == 0x22) && (b == 0x3e) then Some pair.Greek
    else if (i == 0x22) && (b == 0x34) then Some pair.DecHebrew
    else if (i == 0x22) && (b == 0x3f) then Some pair.DecGreek
    else if (i == 0x25) && (b == 0x30) then Some pair.DecTurkish
    else if (i == 0x25) && (b == 0x32) then Some pair.Turkish
    else if (i == 0x25) && (b == 0x33) then Some pair.Scs
    else if (i == 0x25) && (b == 0x35) then Some pair.DecSupplementalGraphics
    else if (i == 0x25) && (b == 0x36) then Some pair.Portuguese
    else if (i == 0x25) && (b == 0x3d) then Some pair.Hebrew
    else if (i == 0x26) && (b == 0x34) then Some pair.DecCyrillic
    else if (i == 0x26) && (b == 0x35) then Some pair.DecRussian
    else None

-- the intermediates and the final byte that designate a set
abbrev pub charset_bytes : Charset → List ℕ × ℕ
charset_bytes (charset.G0 c) = (0x28 ∷ [], charset94_byte c)
charset_bytes (charset.G1 c) = (0x29 ∷ [], charset94_byte c)
charset_bytes (charset.G2 c) = (0x2a ∷ [], charset94_byte c)
charset_bytes (charset.G3 c) = (0x2b ∷ [], charset94_byte c)
charset_bytes (charset.G0Pair c) = (0x28 ∷ pair_first c ∷ [], pair_last c)
charset_bytes (charset.G1Pair c) = (0x29 ∷ pair_first c ∷ [], pair_last c)
charset_bytes (charset.G2Pair c) = (0x2a ∷ pair_first c ∷ [], pair_last c)
charset_bytes (charset.G3Pair c) = (0x2b ∷ pair_first c ∷ [], pair_last c)
charset_bytes (charset.G1Of96 c) = (0x2d ∷ [], charset96_byte c)
charset_bytes (charset.G2Of96 c) = (0x2e ∷ [], charset96_byte c)
charset_bytes (charset.G3Of96 c) = (0x2f ∷ [], charset96_byte c)
charset_bytes (charset.G0Multibyte c) =
    (0x24 ∷ (if is_short c then [] else 0x28 ∷ []), multibyte_byte c)
charset_bytes (charset.G1Multibyte c) = (0x24 ∷ 0x29 ∷ [], multibyte_byte c)
charset_bytes (charset.G2Multibyte c) = (0x24 ∷ 0x2a ∷ [], multibyte_byte c)
charset_bytes (charset.G3Multibyte c) = (0x24 ∷ 0x2b ∷ [], multibyte_byte c)

-- one intermediate or two
abbrev pub one_or_two : ℕ → Option ℕ → List ℕ
one_or_two i None = i ∷ []
one_or_two i (Some j) = i ∷ j ∷ []

-- the sequence that designates it, if it has one intermediate
abbrev pub sequence_of : List ℕ → ℕ → Option Esc
sequence_of [] b = Some (esc_of None b)
sequence_of (i ∷ []) b = Some (esc_of (Some i) b)
sequence_of (i ∷ j ∷ more) b = None

abbrev pub charset_sequence : Charset → Option Esc
charset_sequence c = sequence_of (charset_bytes c).0 (charset_bytes c).1

-- the text of the sequence that designates it
abbrev pub text_after : List ℕ → ℕ → List ℕ
text_after [] b = encode_utf8 b
text_after (i ∷ more) b = encode_utf8 i ++ text_after more b

abbrev pub charset_text : Charset → List ℕ
charset_text c = 0x1b ∷ text_after (charset_bytes c).0 (charset_bytes c).1
