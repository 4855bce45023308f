-- An auditor of a stream that a reader gave.
use Rattle.std.specs.Prelude.{ℕ, List}
use Rattle.std.specs.declared.io.traits.Read.{Ghosts as Reader}
use Rattle.esc_account.specs.Ways.{Way}
use Rattle.esc_account.specs.declared.book.Book.{Ghosts as Writer}
use Rattle.esc_decode.specs.declared.encoding.Encoding.{Encoding}
use Rattle.esc_filter.specs.declared.admit.Admit.{Ghosts as Admitter}
use Rattle.esc_normal.specs.Io.{Borrowed, Reads}
use Rattle.esc_sanitize.specs.Stages.{HasListened}
use Rattle.esc_sanitize.specs.declared.auditor.Auditor.{Auditor}

-- the reader gave some bytes, and the auditor, which goes by this, heard all of what they become
-- by this encoding, and this text of that, of which so much is lost
abbrev pub HasHeardAll : {P B R A : Type 0} → Admitter P A → Writer B A → Reader R → Encoding
    → Way → (List ℕ → List ℕ) → (List ℕ → ℕ) → Auditor P B A → Borrowed R → Type 0
HasHeardAll V W R e w text lost auditor reader =
    (s : List ℕ) × HasListened V W e w text lost auditor s × Reads R s reader
