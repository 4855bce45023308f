-- A filter of what a stream becomes by its encoding, and the auditor of that.
use Rattle.std.specs.Prelude.{ℕ, ◌≡◌, List, []}
use Rattle.esc_account.specs.declared.book.Book.{Ghosts as Writer}
use Rattle.esc_decode.specs.Decodings.{Decodes, decoded_stream}
use Rattle.esc_filter.specs.declared.admit.Admit.{Ghosts as Admitter}
use Rattle.esc_normal.specs.declared.feeding.StreamFilter.{Ghosts as Feeder}
use Rattle.esc_sanitize.specs.Audits.{Heard, HeardAll, way_by, way_of}
use Rattle.esc_sanitize.specs.Written.{passed_of, passing_of}
use Rattle.esc_sanitize.specs.declared.hearing.Hearing.{Hearing}

-- the text that the last call added
abbrev pub heard_added : {F P B A : Type 0} → Feeder F A → Hearing F P B A → List ℕ
heard_added G h = G.added h.decoding.filter

-- The filter was fed what this stream becomes, and has the texts by the options; the auditor heard
-- of that, and of the text, and goes by the options.
pub record Follows {F P B A : Type 0} (G : Feeder F A) (V : Admitter P A) (W : Writer B A)
    (h : Hearing F P B A) (s : List ℕ) : Type 0 where
  pub going : List ℕ → List ℕ
  pub closed : List ℕ → List ℕ
  pub decodes : Decodes G h.decoding.encoding h.decoding.begun h.decoding.filter going closed s
  pub coding : h.decoding.encoding ≡ h.options.encoding
  pub goes_on : (x : List ℕ) → going x ≡ passing_of V h.options x
  pub ends : (x : List ℕ) → closed x ≡ passed_of V h.options x
  pub empty : passing_of V h.options [] ≡ []
  pub heard : Heard V W h.auditor (decoded_stream h.options.encoding s) (passing_of V h.options s)
  pub way : way_of V h.auditor ≡ way_by V h.options

-- the stream has ended, and the auditor heard all of it
abbrev pub HasHeard : {F P B A : Type 0} → Admitter P A → Writer B A → Hearing F P B A → List ℕ
    → Type 0
HasHeard V W h s =
    HeardAll V W h.auditor (decoded_stream h.options.encoding s) (passed_of V h.options s)
    × (way_of V h.auditor ≡ way_by V h.options)
