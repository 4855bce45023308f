-- Each kind of value that fits reads back and is written as a word, and a value that is read fits.
use Rattle.std.proofs.Common.{ℕ, ◌≡◌, ◌<◌, ◌^◌, ◌==◌, true, inl, inr, List, Option, Some, None, ap}
use Rattle.std.proofs.lemmas.Bool.{eqb-false, cases_Bool}
use Rattle.esc_values.specs.Scalars.{IsSigned, and_then, number_of, signed_of}
use Rattle.esc_values.proofs.Codecs.FieldsReadBack.{AreLawful}
use Rattle.esc_values.proofs.Numbers.FactsIfSome.{Where, where_then, number_where, Anything, anything}
use Rattle.esc_values.proofs.Numbers.SignedReadsBack.{signed_where}
use Rattle.esc_kitty.specs.Keys.{not_zero}
use Rattle.esc_kitty.specs.Kinds.{IsFrameNumber, IsNumber, IsOrder, Kind, Number, FrameNumber, Order, Flag, Format, Compression, Composition}
use Rattle.esc_kitty.specs.Kinds.{Of, Fits, kinds, read_as, text_as}
use Rattle.esc_kitty.specs.Words.{composition_of, compression_of, flag_of, format_of}
use Rattle.esc_kitty.proofs.FieldsBack.{composition_back, compression_back, flag_back, format_back, frame_number_is, number_is, order_is}
use Rattle.esc_kitty.proofs.KeysRead.{is_value}
use Rattle.esc_kitty.proofs.ValuesWritten.{composition_value, compression_value, flag_value, format_value, frame_value, number_value, order_value}

kind_back : (k : Kind) (x : Of k) → Fits k x → read_as k (text_as k x) ≡ Some x
kind_back Number n h = ap Some (number_is n h)
kind_back FrameNumber n h = ap Some (frame_number_is n h)
kind_back Order z h = ap Some (order_is z h)
kind_back Flag b h = flag_back b
kind_back Format f h = format_back f
kind_back Compression c h = compression_back c
kind_back Composition m h = composition_back m

pub number_fits : (o : Option (List ℕ)) → IsNumber (and_then o (number_of 32))
number_fits o = where_then (λ (t : List ℕ). Anything t) (λ n. n < 2 ^ 32) (number_of 32) (λ t h.
    number_where 32 t) o (anything o)

pub order_fits : (o : Option (List ℕ)) → IsOrder (and_then o (signed_of 32))
order_fits o = where_then (λ (t : List ℕ). Anything t) (λ z. IsSigned 32 z) (signed_of 32) (λ t h.
    signed_where 32 t) o (anything o)

other_than_zero : (n : Option ℕ) → IsNumber n → IsFrameNumber (not_zero n)
other_than_zero None h = tt
other_than_zero (Some n) h = elim (cases_Bool (n == 0)) [
  | inl held ↦ rw held tt
  | inr failed ↦ rw failed (h, eqb-false n 0 failed)
]

kind_fits : (k : Kind) (o : Option (List ℕ)) → Where (λ x. Fits k x) (read_as k o)
kind_fits Number o = number_fits o
kind_fits FrameNumber o = other_than_zero (and_then o (number_of 32)) (number_fits o)
kind_fits Order o = order_fits o
kind_fits Flag o = anything (flag_of o)
kind_fits Format o = anything (format_of o)
kind_fits Compression o = anything (compression_of o)
kind_fits Composition o = anything (composition_of (and_then o (signed_of 32)))

kind_value : (k : Kind) (x : Of k) → Fits k x → is_value (text_as k x) ≡ true
kind_value Number n h = number_value n h
kind_value FrameNumber n h = frame_value n h
kind_value Order z h = order_value z h
kind_value Flag b h = flag_value b
kind_value Format f h = format_value f
kind_value Compression c h = compression_value c
kind_value Composition m h = composition_value m

pub laws : AreLawful kinds is_value
laws = record { back = kind_back; fits = kind_fits; passes = kind_value }
