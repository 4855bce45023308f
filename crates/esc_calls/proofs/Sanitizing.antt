-- A sanitizer of a stream that may be in UTF-16.
use Rattle.std.proofs.Common.{ℕ, ◌≡◌, false, true, if◌then◌else◌, List, [], ◌++◌, Option, None, Some, string_bytes, refl, ap, sym, subst, ◌∙◌}
use Rattle.std.proofs.lemmas.List.{append_assoc}
use Rattle.esc_decode.specs.Utf16Streams.{DecodesMore, decoder_of, going_text, whole_text}
use Rattle.esc_decode.specs.declared.byte_order.ByteOrder.{ByteOrder}
use Rattle.esc_decode.specs.declared.byte_order.ByteOrder.TheVariants.{Little, Big, Marked}
use Rattle.esc_decode.specs.declared.utf16_decoder.Utf16Decoder.{Utf16Decoder}
use Rattle.esc_sanitize.specs.Sanitized.{HasConsumed, HasEnded, added_by, options_of}
use Rattle.esc_sanitize.specs.Written.{going_of, text_of}
use Rattle.esc_calls.proofs.Known.{known_twice}
use Rattle.esc_calls.specs.SanitizerStates.{Finishes, IsClosing, IsFed, decoder_after, going, going_bytes, state_text, whole_bytes}
use Rattle.esc_calls.specs.Sanitizers.{Sanitizing, Settings, admitter, chain}
use Rattle.esc_calls.specs.declared.sanitizer_state.SanitizerState.{SanitizerState}

-- ---- the bytes that the sanitizer is fed

pub going_nothing : (k : Option ByteOrder) → going_bytes k [] ≡ []
going_nothing None = refl
going_nothing (Some Little) = refl
going_nothing (Some Big) = refl
going_nothing (Some Marked) = refl

-- without a decoder they are those of the stream
pub undecoded : (k : Option ByteOrder) (s t : List ℕ) → decoder_after k s ≡ None
    → (going_bytes k t ≡ t) × (whole_bytes k t ≡ t) × (decoder_after k t ≡ None)
undecoded None s t h = (refl, refl, refl)
undecoded (Some k) s t h = absurd cc

pub undecoded_by : (k : Option ByteOrder) (s : List ℕ) (d : Option Utf16Decoder)
    → d ≡ decoder_after k s → ((e : Utf16Decoder) → d ≡ Some e → ⊥) → decoder_after k s ≡ None
undecoded_by None s d is never = refl
undecoded_by (Some j) s d is never = absurd (never (decoder_of j s) is)

-- with one they are the UTF-8 that it gives
pub decoded_more : (k : Option ByteOrder) (s b x : List ℕ) (d new : Utf16Decoder)
    → decoder_after k s ≡ Some d
    → ((j : ByteOrder) (r : List ℕ) → d ≡ decoder_of j r
    → (t : List ℕ) × (x ≡ t) × DecodesMore j r b t new)
    → (going_bytes k (s ++ b) ≡ going_bytes k s ++ x) × (decoder_after k (s ++ b) ≡ Some new)
decoded_more None s b x d new h by = absurd cc
decoded_more (Some j) s b x d new h by =
    let (t, is, more) = by j s (known_twice (Some (decoder_of j s)) d (decoder_of j s) h refl) in (
      more.text ∙ ap (λ y. going_text j s ++ y) (sym is),
      ap Some (sym more.state),
    )

pub decoded_end : (k : Option ByteOrder) (s x : List ℕ) (d : Utf16Decoder)
    → decoder_after k s ≡ Some d
    → ((j : ByteOrder) (r : List ℕ) → d ≡ decoder_of j r
    → (t : List ℕ) × (x ≡ t) × (whole_text j r ≡ going_text j r ++ t))
    → whole_bytes k s ≡ going_bytes k s ++ x
decoded_end None s x d h by = absurd cc
decoded_end (Some j) s x d h by =
    let (t, is, ends) = by j s (known_twice (Some (decoder_of j s)) d (decoder_of j s) h refl) in
    ends ∙ ap (λ y. going_text j s ++ y) (sym is)

-- ---- one call

pub text_goes_on : (z : SanitizerState) → z.is_closing ≡ false
    → state_text z ≡ added_by chain z.sanitizer
text_goes_on z e = ap (λ x. if x then string_bytes z.text else added_by chain z.sanitizer) e

-- the sanitizer was fed x
pub feeds : (o : Settings) (s b x : List ℕ) (old new : SanitizerState) → IsFed o s old
    → going_bytes o.order (s ++ b) ≡ going_bytes o.order s ++ x
    → new.decoder ≡ decoder_after o.order (s ++ b) → new.is_closing ≡ false
    → options_of new.sanitizer ≡ options_of old.sanitizer
    → HasConsumed chain admitter (going_bytes o.order s ++ x) new.sanitizer
    × (going_of admitter (options_of old.sanitizer) (going_bytes o.order s ++ x)
    ≡ going_of admitter (options_of old.sanitizer) (going_bytes o.order s)
    ++ added_by chain new.sanitizer)
    → IsFed o (s ++ b) new × (going o (s ++ b) ≡ going o s ++ state_text new)
feeds o s b x old new h is decoder goes options k = (
  record {
    fed = subst (λ y. HasConsumed chain admitter y new.sanitizer) (sym is) k.0;
    options = options ∙ h.options;
    decoder = decoder;
    goes_on = goes;
  },
  ap (going_of admitter o.filter) is
      ∙ subst (λ f. going_of admitter f (going_bytes o.order s ++ x)
      ≡ going_of admitter f (going_bytes o.order s) ++ added_by chain new.sanitizer) h.options k.1
      ∙ ap (λ t. going o s ++ t) (sym (text_goes_on new goes)),
)

-- its stream has ended, which is not in UTF-16
pub finishes : (o : Settings) (s : List ℕ) (old new : SanitizerState) → IsFed o s old
    → decoder_after o.order s ≡ None → new.is_closing ≡ false
    → options_of new.sanitizer ≡ options_of old.sanitizer
    → HasEnded admitter (going_bytes o.order s) new.sanitizer
    × (text_of admitter (options_of old.sanitizer) (going_bytes o.order s)
    ≡ going_of admitter (options_of old.sanitizer) (going_bytes o.order s)
    ++ added_by chain new.sanitizer)
    → Finishes o s new
finishes o s old new h none goes options k =
    let same = undecoded o.order s s none in
    let whole : whole_bytes o.order s ≡ going_bytes o.order s = same.1 ∙ sym same.0 in
    record {
      text = ap (text_of admitter o.filter) whole
          ∙ subst (λ f. text_of admitter f (going_bytes o.order s)
          ≡ going_of admitter f (going_bytes o.order s) ++ added_by chain new.sanitizer) h.options
          k.1 ∙ ap (λ t. going o s ++ t) (sym (text_goes_on new goes));
      account =
          (subst (λ y. HasEnded admitter y new.sanitizer) (sym whole) k.0, options ∙ h.options);
    }

-- it was fed the last UTF-8 of the stream, and then its stream has ended; both texts are kept
pub closes : (o : Settings) (s x : List ℕ) (old new : SanitizerState)
    (fed again last : Sanitizing) → IsClosing o s old → x ≡ old.decoded.items
    → HasConsumed chain admitter (going_bytes o.order s ++ x) fed
    × (going_of admitter (options_of old.sanitizer) (going_bytes o.order s ++ x)
    ≡ going_of admitter (options_of old.sanitizer) (going_bytes o.order s) ++ added_by chain fed)
    → options_of fed ≡ options_of old.sanitizer → again ≡ fed
    → (HasConsumed chain admitter (going_bytes o.order s ++ x) again
    → HasEnded admitter (going_bytes o.order s ++ x) last
    × (text_of admitter (options_of again) (going_bytes o.order s ++ x)
    ≡ going_of admitter (options_of again) (going_bytes o.order s ++ x)
    ++ added_by chain last))
    → options_of last ≡ options_of again → new.sanitizer ≡ last → new.is_closing ≡ true
    → string_bytes new.text ≡ added_by chain fed ++ added_by chain last
    → Finishes o s new
closes o s x old new fed again last h is k first same by second ends closing text =
    let r = going_bytes o.order s in
    let whole : whole_bytes o.order s ≡ r ++ x = h.rest ∙ ap (λ y. r ++ y) (sym is) in
    let end = by (subst (λ z. HasConsumed chain admitter (r ++ x) z) (sym same) k.0) in
    let options : options_of again ≡ o.filter = ap options_of same ∙ first ∙ h.options in
    let added = subst (λ f. going_of admitter f (r ++ x)
    ≡ going_of admitter f r ++ added_by chain fed) h.options k.1 in
    let ended = subst (λ f. text_of admitter f (r ++ x)
    ≡ going_of admitter f (r ++ x) ++ added_by chain last) options end.1 in
    let kept : state_text new ≡ added_by chain fed ++ added_by chain last =
    ap (λ y. if y then string_bytes new.text else added_by chain new.sanitizer) closing ∙ text in
    record {
      text = ap (text_of admitter o.filter) whole ∙ ended
          ∙ ap (λ t. t ++ added_by chain last) added
          ∙ append_assoc (going o s) (added_by chain fed) (added_by chain last)
          ∙ ap (λ t. going o s ++ t) (sym kept);
      account = (
        subst (λ y. HasEnded admitter y new.sanitizer) (sym whole)
            (subst (λ z. HasEnded admitter (r ++ x) z) (sym ends) end.0),
        ap options_of ends ∙ second ∙ options,
      );
    }
