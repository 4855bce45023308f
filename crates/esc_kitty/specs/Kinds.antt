-- The kinds of values that the keys of an image have.
use Rattle.std.specs.Prelude.{ℕ, ℤ, ◌≢◌, ◌<◌, ◌^◌, Bool, List, Option, Some, IfSome}
use Rattle.std.specs.Fmt.{decimal, signed_decimal}
use Rattle.std.specs.Option.{option_map}
use Rattle.esc_values.specs.Fields.{Kinds}
use Rattle.esc_values.specs.Scalars.{IsSigned, and_then, number_of, signed_of}
use Rattle.esc_kitty.specs.Keys.{not_zero}
use Rattle.esc_kitty.specs.Words.{flag_of, flag_word, format_of, format_word, compression_of, compression_word, composition_of, composition_word}
use Rattle.esc_kitty.specs.declared.format.KittyImageFormat.{KittyImageFormat}
use Rattle.esc_kitty.specs.declared.compression.KittyImageCompression.{KittyImageCompression}
use Rattle.esc_kitty.specs.declared.composition.KittyFrameCompositionMode.{KittyFrameCompositionMode}

-- the numbers of the fields have 32 bits, as in each value that a program holds; those of frames
-- are not 0
abbrev pub IsNumber : Option ℕ → Type 0
IsNumber n = IfSome n (λ x. x < 2 ^ 32)

abbrev pub IsFrameNumber : Option ℕ → Type 0
IsFrameNumber n = IfSome n (λ x. (x < 2 ^ 32) × (x ≢ 0))

abbrev pub IsOrder : Option ℤ → Type 0
IsOrder z = IfSome z (λ x. IsSigned 32 x)

abbrev pub number_text : Option ℕ → Option (List ℕ)
number_text n = option_map decimal n

abbrev pub signed_text : Option ℤ → Option (List ℕ)
signed_text z = option_map signed_decimal z

-- a number, one whose 0 counts as absent, a signed number, a flag, or one of three kinds of
-- words
pub data Kind : Type 0 where
  Number FrameNumber Order Flag Format Compression Composition : Kind

abbrev pub Of : Kind → Type 0
Of Number = Option ℕ
Of FrameNumber = Option ℕ
Of Order = Option ℤ
Of Flag = Bool
Of Format = Option KittyImageFormat
Of Compression = KittyImageCompression
Of Composition = KittyFrameCompositionMode

abbrev pub read_as : (k : Kind) → Option (List ℕ) → Option (Of k)
read_as Number o = Some (and_then o (number_of 32))
read_as FrameNumber o = Some (not_zero (and_then o (number_of 32)))
read_as Order o = Some (and_then o (signed_of 32))
read_as Flag o = flag_of o
read_as Format o = format_of o
read_as Compression o = compression_of o
read_as Composition o = composition_of (and_then o (signed_of 32))

abbrev pub text_as : (k : Kind) → Of k → Option (List ℕ)
text_as Number n = number_text n
text_as FrameNumber n = number_text n
text_as Order z = signed_text z
text_as Flag b = flag_word b
text_as Format f = format_word f
text_as Compression c = compression_word c
text_as Composition m = composition_word m

abbrev pub Fits : (k : Kind) → Of k → Type 0
Fits Number n = IsNumber n
Fits FrameNumber n = IsFrameNumber n
Fits Order z = IsOrder z
Fits Flag b = Unit {0}
Fits Format f = Unit {0}
Fits Compression c = Unit {0}
Fits Composition m = Unit {0}

abbrev pub kinds : Kinds
kinds = record { Kind = Kind; Of = Of; read_as = read_as; text_as = text_as; Fits = Fits }
