-- The bytes that a sanitizer in chunks was fed.
use Rattle.std.specs.Prelude.{ℕ, ◌≡◌, List, ◌++◌}
use Rattle.esc_frame.specs.declared.error.ParseError.{ParseError}
use Rattle.esc_frame.specs.declared.error.ParseError.TheVariants as error
use Rattle.esc_sanitize.specs.Sanitized.{HasEnded, options_of}
use Rattle.esc_sanitize.specs.Written.{IsOfTokens}
use Rattle.esc_calls.specs.InChunks.{Keeps, text_of}
use Rattle.esc_calls.specs.Kept.{sanitizer_in, sanitizer_state_in}
use Rattle.esc_calls.specs.SanitizerStates.{IsFed, sanitized_text, going, whole_bytes}
use Rattle.esc_calls.specs.Sanitizers.{Settings, admitter}
use Rattle.esc_calls.specs.declared.TheConstants.{NO_MEMORY, NOT_BEGUN}
use Rattle.esc_calls.specs.declared.in_chunks.InChunks.{InChunks}

-- it has begun, with these settings, and was fed these bytes, and its stream has not ended
abbrev pub SanitizerHasConsumed : Settings → List ℕ → InChunks → Type 0
SanitizerHasConsumed o s = Keeps sanitizer_state_in (IsFed o s)

-- The stream s has ended.
pub record FinishesSanitizer (o : Settings) (s : List ℕ) (p : InChunks) : Type 0 where
  -- its text completes that of the stream
  pub text : sanitized_text o s ≡ going o s ++ text_of p
  -- the output is plain text, or characters, renditions and links, if no more passes
  pub chunks : IsOfTokens admitter o.filter
  -- and it has the account of the stream, or of its UTF-8 if it is in UTF-16
  pub account : Keeps sanitizer_in (λ z. HasEnded admitter (whole_bytes o.order s) z
      × (options_of z ≡ o.filter)) p

-- the status that says an error
abbrev pub error_status : ParseError → ℕ
error_status error.Memory = NO_MEMORY
error_status error.Failed = NOT_BEGUN
