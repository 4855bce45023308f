-- A sanitizer, and the decoder of its stream.
use Rattle.std.specs.Prelude.{ℕ, ◌≡◌, false, if◌then◌else◌, List, ◌++◌, Option, None, Some, string_bytes}
use Rattle.esc_decode.specs.Utf16Streams.{decoder_of, going_text, whole_text}
use Rattle.esc_decode.specs.declared.byte_order.ByteOrder.{ByteOrder}
use Rattle.esc_decode.specs.declared.utf16_decoder.Utf16Decoder.{Utf16Decoder}
use Rattle.esc_sanitize.specs.Sanitized.{HasConsumed, HasEnded, added_by, options_of}
use Rattle.esc_sanitize.specs.Written.{going_of, text_of}
use Rattle.esc_calls.specs.Sanitizers.{Settings, admitter, chain}
use Rattle.esc_calls.specs.declared.sanitizer_state.SanitizerState.{SanitizerState}

-- ---- the stream that the sanitizer is fed

-- the UTF-8 of a stream in UTF-16 that goes on, and of one that has ended; any other stream itself
abbrev pub going_bytes : Option ByteOrder → List ℕ → List ℕ
going_bytes None s = s
going_bytes (Some k) s = going_text k s

abbrev pub whole_bytes : Option ByteOrder → List ℕ → List ℕ
whole_bytes None s = s
whole_bytes (Some k) s = whole_text k s

-- the decoder after a stream
abbrev pub decoder_after : Option ByteOrder → List ℕ → Option Utf16Decoder
decoder_after None s = None
decoder_after (Some k) s = Some (decoder_of k s)

-- ---- the text

-- the text of a stream that goes on, and of one that has ended
abbrev pub going : Settings → List ℕ → List ℕ
going o s = going_of admitter o.filter (going_bytes o.order s)

abbrev pub sanitized_text : Settings → List ℕ → List ℕ
sanitized_text o s = text_of admitter o.filter (whole_bytes o.order s)

-- the text that the last call added
abbrev pub state_text : SanitizerState → List ℕ
state_text z = if z.is_closing then string_bytes z.text else added_by chain z.sanitizer

-- ---- the state

-- it was fed these bytes, and its stream has not ended
pub record IsFed (o : Settings) (s : List ℕ) (z : SanitizerState) : Type 0 where
  pub fed : HasConsumed chain admitter (going_bytes o.order s) z.sanitizer
  pub options : options_of z.sanitizer ≡ o.filter
  pub decoder : z.decoder ≡ decoder_after o.order s
  pub goes_on : z.is_closing ≡ false

-- it has the last UTF-8 of the stream s, which the sanitizer is not fed yet
pub record IsClosing (o : Settings) (s : List ℕ) (z : SanitizerState) : Type 0 where
  pub fed : HasConsumed chain admitter (going_bytes o.order s) z.sanitizer
  pub options : options_of z.sanitizer ≡ o.filter
  pub rest : whole_bytes o.order s ≡ going_bytes o.order s ++ z.decoded.items

-- the stream s has ended: the text completes that of s, and the account is that of s
pub record Finishes (o : Settings) (s : List ℕ) (z : SanitizerState) : Type 0 where
  pub text : sanitized_text o s ≡ going o s ++ state_text z
  pub account : HasEnded admitter (whole_bytes o.order s) z.sanitizer
      × (options_of z.sanitizer ≡ o.filter)
