-- A stream of UTF-16, of which a byte order mark may say the order of bytes, as UTF-8.
use Rattle.std.specs.Prelude.{ℕ, ◌≡◌, Bool, true, false, List, [], ◌∷◌, ◌++◌, Option, None, Some}
use Rattle.esc_decode.specs.Spellings.{spell_all}
use Rattle.esc_decode.specs.Units.{after, all_code_points, fresh_units, mark_of, unit_text, utf16_text}
use Rattle.esc_decode.specs.declared.byte_order.ByteOrder.{ByteOrder}
use Rattle.esc_decode.specs.declared.byte_order.ByteOrder.TheVariants.{Little, Big, Marked}
use Rattle.esc_decode.specs.declared.utf16_decoder.Utf16Decoder.{Utf16Decoder}

-- ---- the order of bytes

-- whether the lower byte of a unit comes first, and the bytes of units
abbrev pub Ordered : Type 0
Ordered = Bool × List ℕ

-- a byte order mark is no part of the text; without one the lower byte comes first
abbrev pub ordered_by : Option Bool → List ℕ → List ℕ → Ordered
ordered_by None s rest = (true, s)
ordered_by (Some little) s rest = (little, rest)

abbrev pub ordered_by_mark : List ℕ → Ordered
ordered_by_mark [] = (true, [])
ordered_by_mark (a ∷ []) = (true, a ∷ [])
ordered_by_mark (a ∷ b ∷ s) = ordered_by (mark_of a b) (a ∷ b ∷ s) s

abbrev pub by_order : ByteOrder → List ℕ → Ordered
by_order Little s = (true, s)
by_order Big s = (false, s)
by_order Marked s = ordered_by_mark s

-- ---- the text

-- the text of a stream that goes on
abbrev pub text_by : Ordered → List ℕ
text_by o = utf16_text o.0 o.1

abbrev pub going_text : ByteOrder → List ℕ → List ℕ
going_text k s = text_by (by_order k s)

-- the text of one that has ended
abbrev pub whole_text_by : Ordered → List ℕ
whole_text_by o = spell_all (all_code_points o.0 o.1)

abbrev pub whole_text : ByteOrder → List ℕ → List ℕ
whole_text k s = whole_text_by (by_order k s)

-- ---- in chunks

-- the first two bytes of the stream may be a byte order mark, and are not there yet
abbrev pub may_begin_mark : List ℕ → Bool
may_begin_mark [] = true
may_begin_mark (a ∷ []) = true
may_begin_mark (a ∷ b ∷ s) = false

abbrev pub awaits_mark : ByteOrder → List ℕ → Bool
awaits_mark Little s = false
awaits_mark Big s = false
awaits_mark Marked s = may_begin_mark s

-- the state after a stream
abbrev pub decoder_by : Bool → Ordered → Utf16Decoder
decoder_by awaits o = record { units = after (fresh_units o.0) o.1; awaits_mark = awaits }

abbrev pub decoder_of : ByteOrder → List ℕ → Utf16Decoder
decoder_of k s = decoder_by (awaits_mark k s) (by_order k s)

-- the decoder has taken b after s, and t is the text that b adds
pub record DecodesMore (k : ByteOrder) (s b t : List ℕ) (d : Utf16Decoder) : Type 0 where
  pub state : d ≡ decoder_of k (s ++ b)
  pub text : going_text k (s ++ b) ≡ going_text k s ++ t

-- `rest` is left of the bytes b after s, to be taken as units: a byte order mark is over, or is
-- still to come
pub record LeavesUnits (k : ByteOrder) (s b rest : List ℕ) (d : Utf16Decoder) : Type 0 where
  pub awaits : d.awaits_mark ≡ awaits_mark k (s ++ b)
  pub state : after d.units rest ≡ (decoder_of k (s ++ b)).units
  pub text : going_text k (s ++ b) ≡ going_text k s ++ unit_text d.units rest
