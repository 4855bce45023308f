-- The values of keys that are written are read as the fields that they were written for.
use Rattle.std.proofs.Common.{ℕ, ℤ, ◌≡◌, ◌<◌, ◌^◌, Bool, true, false, codes, Option, Some, None, refl, arith}
use Rattle.std.specs.Fmt.{decimal}
use Rattle.std.specs.Option.{unwrap_or}
use Rattle.std.proofs.lemmas.Bool.{ne_eqb}
use Rattle.esc_values.specs.Scalars.{and_then, number_of, signed_of}
use Rattle.esc_values.proofs.Clear.ClearTexts.{clear_utf8}
use Rattle.esc_values.proofs.Clear.NumbersAreClear.{number_back}
use Rattle.esc_values.proofs.Clear.PlainIsClear.{plain_clear}
use Rattle.esc_values.proofs.Codecs.Base64ReadsBack.{base64_back}
use Rattle.esc_values.proofs.Numbers.SignedReadsBack.{signed_back_32}
use Rattle.std.proofs.lemmas.Str.{is_utf8-from_IsUtf8}
use Rattle.esc_kitty.specs.Images.{content_by}
use Rattle.esc_kitty.specs.Keys.{not_zero}
use Rattle.esc_kitty.specs.Kinds.{IsFrameNumber, IsNumber, IsOrder, number_text, signed_text}
use Rattle.esc_kitty.specs.Texts.{content_text, medium_word, offset_in, size_in}
use Rattle.esc_kitty.specs.Words.{composition_of, composition_word, compression_of, compression_word, flag_of, flag_word, format_of, format_word}
use Rattle.esc_kitty.specs.Words.{verbosity_of, verbosity_word}
use Rattle.esc_kitty.specs.Writable.{IsWritableContent}
use Rattle.esc_kitty.specs.declared.verbosity.KittyImageVerbosity.{KittyImageVerbosity}
use Rattle.esc_kitty.specs.declared.verbosity.KittyImageVerbosity.TheVariants.{Verbose, OnlyErrors, Quiet}
use Rattle.esc_kitty.specs.declared.format.KittyImageFormat.{KittyImageFormat}
use Rattle.esc_kitty.specs.declared.format.KittyImageFormat.TheVariants.{Rgb, Rgba, Png}
use Rattle.esc_kitty.specs.declared.compression.KittyImageCompression.{KittyImageCompression}
use Rattle.esc_kitty.specs.declared.compression.KittyImageCompression.TheVariants as compression
use Rattle.esc_kitty.specs.declared.composition.KittyFrameCompositionMode.{KittyFrameCompositionMode}
use Rattle.esc_kitty.specs.declared.composition.KittyFrameCompositionMode.TheVariants.{AlphaBlending, Overwrite}
use Rattle.esc_kitty.specs.declared.content.KittyImageData.{KittyImageData}
use Rattle.esc_kitty.specs.declared.content.KittyImageData.TheVariants.{Direct, DirectBin, File, TemporaryFile, SharedMem}

-- words
pub verbosity_back : (q : KittyImageVerbosity) → verbosity_of (verbosity_word q) ≡ Some q
verbosity_back Verbose = refl
verbosity_back OnlyErrors = refl
verbosity_back Quiet = refl

pub flag_back : (b : Bool) → flag_of (flag_word b) ≡ Some b
flag_back true = refl
flag_back false = refl

pub format_back : (f : Option KittyImageFormat) → format_of (format_word f) ≡ Some f
format_back None = refl
format_back (Some Rgb) = refl
format_back (Some Rgba) = refl
format_back (Some Png) = refl

pub compression_back : (c : KittyImageCompression) → compression_of (compression_word c) ≡ Some c
compression_back compression.None = refl
compression_back compression.Deflate = refl

pub composition_back : (m : KittyFrameCompositionMode)
    → composition_of (and_then (composition_word m) (signed_of 32)) ≡ Some m
composition_back AlphaBlending = refl
composition_back Overwrite = refl

-- numbers
pub one_back : (n : ℕ) → n < 2 ^ 32 → number_of 32 (decimal n) ≡ Some n
one_back n h = number_back 32 n h (omega (arith, h))

pub number_is : (n : Option ℕ) → IsNumber n → and_then (number_text n) (number_of 32) ≡ n
number_is None h = refl
number_is (Some n) h = one_back n h

pub order_is : (z : Option ℤ) → IsOrder z → and_then (signed_text z) (signed_of 32) ≡ z
order_is None h = refl
order_is (Some z) h = signed_back_32 z h

pub frame_number_is : (n : Option ℕ) → IsFrameNumber n
    → not_zero (and_then (number_text n) (number_of 32)) ≡ n
frame_number_is None h = refl
frame_number_is (Some n) h = rw (one_back n h.0, ne_eqb n 0 h.1) refl

-- the content of an image reads back
pub content_is : {A : Type 0} (c : KittyImageData A) → IsWritableContent c
    → content_by {A = A} (unwrap_or (medium_word c) (codes "d"))
    (and_then (number_text (size_in c)) (number_of 32))
    (and_then (number_text (offset_in c)) (number_of 32)) (content_text c) ≡ Some c
content_is (Direct t) h = rw (is_utf8-from_IsUtf8 t (clear_utf8 t (plain_clear t h))) refl
content_is (DirectBin b) h = absurd h
content_is (File t s o) h = rw (base64_back t h.0, number_is s h.1, number_is o h.2) refl
content_is (TemporaryFile t s o) h = rw (base64_back t h.0, number_is s h.1, number_is o h.2) refl
content_is (SharedMem t s o) h = rw (base64_back t h.0, number_is s h.1, number_is o h.2) refl
