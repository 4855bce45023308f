-- The values of keys that are written are words, and payloads are kept.
use Rattle.std.proofs.Common.{ℕ, ℤ, ◌≡◌, ◌==◌, Bool, true, false, not, Option, Some, None, refl, arith}
use Rattle.std.proofs.lemmas.Bool.{and_parts}
use Rattle.std.specs.List.{list_all}
use Rattle.esc_values.proofs.Codecs.Base64ReadsBack.{base64_passes}
use Rattle.esc_values.proofs.Codecs.TextBytesAreBytes.{utf8_are_bytes}
use Rattle.esc_kitty.specs.Kinds.{IsFrameNumber, IsNumber, IsOrder, number_text, signed_text}
use Rattle.esc_kitty.specs.Texts.{content_text, medium_word, offset_in, size_in}
use Rattle.esc_kitty.specs.Words.{composition_word, compression_word, flag_word, format_word, verbosity_word}
use Rattle.esc_kitty.specs.Writable.{IsWritableContent, is_kept}
use Rattle.esc_kitty.specs.declared.verbosity.KittyImageVerbosity.{KittyImageVerbosity}
use Rattle.esc_kitty.specs.declared.verbosity.KittyImageVerbosity.TheVariants.{Verbose, OnlyErrors, Quiet}
use Rattle.esc_kitty.specs.declared.format.KittyImageFormat.{KittyImageFormat}
use Rattle.esc_kitty.specs.declared.format.KittyImageFormat.TheVariants.{Rgb, Rgba, Png}
use Rattle.esc_kitty.specs.declared.compression.KittyImageCompression.{KittyImageCompression}
use Rattle.esc_kitty.specs.declared.compression.KittyImageCompression.TheVariants as compression
use Rattle.esc_kitty.specs.declared.composition.KittyFrameCompositionMode.{KittyFrameCompositionMode}
use Rattle.esc_kitty.specs.declared.composition.KittyFrameCompositionMode.TheVariants.{AlphaBlending, Overwrite}
use Rattle.esc_kitty.specs.declared.content.KittyImageData.{KittyImageData}
use Rattle.esc_kitty.specs.declared.content.KittyImageData.TheVariants.{Direct, DirectBin, File, TemporaryFile, SharedMem}
use Rattle.esc_kitty.proofs.KeysRead.{is_value, decimal_word, is_word, signed_word}

-- values are words
pub number_value : (n : Option ℕ) → IsNumber n → is_value (number_text n) ≡ true
number_value None h = refl
number_value (Some n) h = decimal_word n (omega (arith, h))

pub frame_value : (n : Option ℕ) → IsFrameNumber n → is_value (number_text n) ≡ true
frame_value None h = refl
frame_value (Some n) h = decimal_word n (omega (arith, h.0))

pub order_value : (z : Option ℤ) → IsOrder z → is_value (signed_text z) ≡ true
order_value None h = refl
order_value (Some z) h = signed_word z h

pub flag_value : (b : Bool) → is_value (flag_word b) ≡ true
flag_value true = refl
flag_value false = refl

pub verbosity_value : (q : KittyImageVerbosity) → is_value (verbosity_word q) ≡ true
verbosity_value Verbose = refl
verbosity_value OnlyErrors = refl
verbosity_value Quiet = refl

pub format_value : (f : Option KittyImageFormat) → is_value (format_word f) ≡ true
format_value None = refl
format_value (Some Rgb) = refl
format_value (Some Rgba) = refl
format_value (Some Png) = refl

pub compression_value : (c : KittyImageCompression) → is_value (compression_word c) ≡ true
compression_value compression.None = refl
compression_value compression.Deflate = refl

pub composition_value : (m : KittyFrameCompositionMode) → is_value (composition_word m) ≡ true
composition_value AlphaBlending = refl
composition_value Overwrite = refl

pub medium_value : {A : Type 0} (c : KittyImageData A) → is_value (medium_word c) ≡ true
medium_value (Direct t) = refl
medium_value (DirectBin b) = refl
medium_value (File t s o) = refl
medium_value (TemporaryFile t s o) = refl
medium_value (SharedMem t s o) = refl

pub content_size : {A : Type 0} (c : KittyImageData A) → IsWritableContent c → IsNumber (size_in c)
content_size (Direct t) h = tt
content_size (DirectBin b) h = tt
content_size (File t s o) h = h.1
content_size (TemporaryFile t s o) h = h.1
content_size (SharedMem t s o) h = h.1

pub content_offset : {A : Type 0} (c : KittyImageData A) → IsWritableContent c
    → IsNumber (offset_in c)
content_offset (Direct t) h = tt
content_offset (DirectBin b) h = tt
content_offset (File t s o) h = h.2
content_offset (TemporaryFile t s o) h = h.2
content_offset (SharedMem t s o) h = h.2

-- the payload is kept
pub content_kept : {A : Type 0} (c : KittyImageData A) → IsWritableContent c
    → list_all is_kept (content_text c) ≡ true
content_kept (Direct t) h = h
content_kept (DirectBin b) h = absurd h
content_kept (File t s o) h = base64_passes is_kept refl refl t (utf8_are_bytes t h.0)
content_kept (TemporaryFile t s o) h = base64_passes is_kept refl refl t (utf8_are_bytes t h.0)
content_kept (SharedMem t s o) h = base64_passes is_kept refl refl t (utf8_are_bytes t h.0)

pub word_kept : (c : ℕ) → is_word c ≡ true → is_kept c ≡ true
word_kept c h =
    let part = and_parts (Rattle.esc_values.proofs.Clear.PlainPartsAreClear.is_part_plain c)
    (not (c == 0x2c)) h in
    (and_parts (is_kept c) (not (c == 0x3b)) part.0).0
