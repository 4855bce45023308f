-- A stream of UTF-16 by its byte order mark, in chunks.
use Rattle.std.proofs.Common.{ℕ, ◌≡◌, ◌++◌, ◌∷◌, ◌∙◌, Bool, true, false, List, [], Option, None, Some, Result, Ok, Err, OnOk, refl, sym, ap}
use Rattle.esc_decode.proofs.Spelled.{spell_append}
use Rattle.esc_decode.specs.Spellings.{spell_all}
use Rattle.esc_decode.proofs.Units.{added_append, after_append}
use Rattle.esc_decode.specs.Masks.{masked_bytes}
use Rattle.esc_decode.proofs.Characters.{spelled_stays}
use Rattle.esc_decode.specs.Units.{after, all_code_points, code_points, cut_short, fresh_units, left_after, mark_of, odd_after, unit_text, units_after}
use Rattle.esc_decode.specs.Utf16Streams.{DecodesMore, LeavesUnits, awaits_mark, decoder_by, decoder_of, going_text, may_begin_mark, by_order, ordered_by, ordered_by_mark, text_by, whole_text}
use Rattle.esc_decode.specs.declared.byte_order.ByteOrder.{ByteOrder}
use Rattle.esc_decode.specs.declared.byte_order.ByteOrder.TheVariants.{Little, Big, Marked}
use Rattle.esc_decode.specs.declared.utf16_decoder.Utf16Decoder.{Utf16Decoder}

-- ---- after a mark, or where there is none

by_more : (m : Option Bool) (s rest b : List ℕ)
    → ordered_by m (s ++ b) (rest ++ b)
    ≡ ((ordered_by m s rest).0, (ordered_by m s rest).1 ++ b)
by_more None s rest b = refl
by_more (Some little) s rest b = refl

mark_more : (s b : List ℕ) → may_begin_mark s ≡ false
    → (may_begin_mark (s ++ b) ≡ false)
    × (ordered_by_mark (s ++ b) ≡ ((ordered_by_mark s).0, (ordered_by_mark s).1 ++ b))
mark_more [] b h = absurd cc
mark_more (x ∷ []) b h = absurd cc
mark_more (x ∷ y ∷ s) b h = (refl, by_more (mark_of x y) (x ∷ y ∷ s) s b)

ordered_more : (k : ByteOrder) (s b : List ℕ) → awaits_mark k s ≡ false
    → (awaits_mark k (s ++ b) ≡ false)
    × (by_order k (s ++ b) ≡ ((by_order k s).0, (by_order k s).1 ++ b))
ordered_more Little s b h = (refl, refl)
ordered_more Big s b h = (refl, refl)
ordered_more Marked s b h = mark_more s b h

pub no_mark : (k : ByteOrder) (s b : List ℕ) (d : Utf16Decoder) → d ≡ decoder_of k s
    → d.awaits_mark ≡ false → LeavesUnits k s b b d
no_mark k s b d e w =
    let u = fresh_units (by_order k s).0 in
    let r = (by_order k s).1 in
    let is = ordered_more k s b (sym (ap (λ v. v.awaits_mark) e) ∙ w) in
    record {
      awaits = w ∙ sym is.0;
      state = ap (λ v. after v.units b) e ∙ after_append u r b
          ∙ ap (λ o. after (fresh_units o.0) o.1) (sym is.1);
      text = ap text_by is.1 ∙ added_append u r b
          ∙ ap (λ v. going_text k s ++ unit_text v.units b) (sym e);
    }

-- ---- before

pub by_mark : (k : ByteOrder) (s b rest : List ℕ) (old d : Utf16Decoder) → old ≡ decoder_of k s
    → old.awaits_mark ≡ true
    → ((r : List ℕ) → old ≡ decoder_of Marked r → old.awaits_mark ≡ true
    → LeavesUnits Marked r b rest d)
    → LeavesUnits k s b rest d
by_mark Little s b rest old d e w h = let is = ap (λ v. v.awaits_mark) e in absurd cc
by_mark Big s b rest old d e w h = let is = ap (λ v. v.awaits_mark) e in absurd cc
by_mark Marked s b rest old d e w h = h s e w

-- ---- one call

-- two facts of a result
pub both : {T E P Q R : Type 0} (r : Result T E) → (P → Q → R) → OnOk r P → OnOk r Q → OnOk r R
both (Ok x) f p q = f p q
both (Err e) f p q = tt

pub pushed : (k : ByteOrder) (s b rest : List ℕ) (d : Utf16Decoder) → LeavesUnits k s b rest d
    → DecodesMore k s b (unit_text d.units rest)
    (record { units = after d.units rest; awaits_mark = d.awaits_mark })
pushed k s b rest d l = record {
  state = ap (λ u. record { units = u; awaits_mark = d.awaits_mark }) l.state
      ∙ ap (λ w. decoder_by w (by_order k (s ++ b))) l.awaits;
  text = l.text;
}

pub ended : (k : ByteOrder) (s : List ℕ) (d : Utf16Decoder) → d ≡ decoder_of k s
    → whole_text k s
    ≡ going_text k s ++ spell_all (cut_short d.units.odd d.units.high)
ended k s d e =
    let o = by_order k s in
    spell_append (code_points o.0 o.1)
    (cut_short (odd_after None o.1) (left_after None (units_after o.0 None o.1)))
    ∙ ap (λ v. going_text k s ++ spell_all (cut_short v.units.odd v.units.high)) (sym e)

-- ---- the text

pub text_stays : (k : ByteOrder) (s : List ℕ) → masked_bytes (whole_text k s) ≡ whole_text k s
text_stays k s = let o = by_order k s in (spelled_stays (all_code_points o.0 o.1)).0
