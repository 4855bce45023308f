-- A filter with its auditor, and what is left of the lines of its text.
use Rattle.std.specs.Prelude.{ℕ, ◌≡◌, List}
use Rattle.esc_account.specs.Ways.{Way}
use Rattle.esc_account.specs.declared.book.Book.{Ghosts as Writer}
use Rattle.esc_decode.specs.Decodings.{decoded_stream}
use Rattle.esc_decode.specs.declared.encoding.Encoding.{Encoding}
use Rattle.esc_filter.specs.declared.admit.Admit.{Ghosts as Admitter}
use Rattle.esc_normal.specs.declared.feeding.StreamFilter.{Ghosts as Feeder}
use Rattle.esc_sanitize.specs.Audits.{HasNoted, HeardAll, way_by, way_of}
use Rattle.esc_sanitize.specs.Hearings.{Follows, HasHeard, heard_added}
use Rattle.esc_sanitize.specs.Overwritten.{lost_of_stream}
use Rattle.esc_sanitize.specs.Rows.{HasLeft, left_added}
use Rattle.esc_sanitize.specs.Written.{going_of, passed_of, passing_of, text_of}
use Rattle.esc_sanitize.specs.declared.auditor.Auditor.{Auditor}
use Rattle.esc_sanitize.specs.declared.options.FilterOptions.{FilterOptions}
use Rattle.esc_sanitize.specs.declared.staged.Staged.{Staged}

-- the options by which it filters, and its auditor
abbrev pub options_of : {F P B A : Type 0} → Staged F P B A → FilterOptions P
options_of k = k.hearing.options

abbrev pub auditor_of : {F P B A : Type 0} → Staged F P B A → Auditor P B A
auditor_of k = k.hearing.auditor

-- the text that the last call added
abbrev pub staged_added : {F P B A : Type 0} → Feeder F A → Staged F P B A → List ℕ
staged_added G k = left_added k.left (heard_added G k.hearing)

-- it was fed this stream, by its options
abbrev pub Runs : {F P B A : Type 0} → Feeder F A → Admitter P A → Writer B A → Staged F P B A
    → List ℕ → Type 0
Runs G V W k s = Follows G V W k.hearing s
    × HasLeft (options_of k).window (passing_of V (options_of k) s) k.left

-- the stream has ended, and the auditor heard all of it, and how much of it is overwritten
abbrev pub HasFinished : {F P B A : Type 0} → Admitter P A → Writer B A → Staged F P B A → List ℕ
    → Type 0
HasFinished V W k s =
    HasHeard V W k.hearing s × HasNoted (lost_of_stream V (options_of k) s) (auditor_of k)

-- ---- as what takes a stream in chunks

-- it was fed this stream, and gives these texts, by its options
abbrev pub Gives : {F P B A : Type 0} → Feeder F A → Admitter P A → Writer B A → Staged F P B A
    → (List ℕ → List ℕ) → (List ℕ → List ℕ) → List ℕ → Type 0
Gives G V W k m c s = Runs G V W k s × ((x : List ℕ) → m x ≡ going_of V (options_of k) x)
    × ((x : List ℕ) → c x ≡ text_of V (options_of k) x)

-- It was fed this stream, and gives these texts, by its options: in this encoding, with an account
-- by this, and with this text of what passes of a stream that has ended, of which so much is lost.
pub record IsRun {F P B A : Type 0} (G : Feeder F A) (V : Admitter P A) (W : Writer B A)
    (e : Encoding) (w : Way) (text : List ℕ → List ℕ) (lost : List ℕ → ℕ) (k : Staged F P B A)
    (m c : List ℕ → List ℕ) (s : List ℕ) : Type 0 where
  pub runs : Runs G V W k s
  pub goes_on : (x : List ℕ) → m x ≡ going_of V (options_of k) x
  pub ends : (x : List ℕ) → c x ≡ text_of V (options_of k) x
  pub coding : (options_of k).encoding ≡ e
  pub way : way_by V (options_of k) ≡ w
  pub passed : (x : List ℕ) → passed_of V (options_of k) x ≡ text x
  pub losing : (x : List ℕ) → lost_of_stream V (options_of k) x ≡ lost x

-- the auditor, which goes by this, heard all of what these bytes become, and their text, and how
-- much of that is lost
abbrev pub HasListened : {P B A : Type 0} → Admitter P A → Writer B A → Encoding → Way
    → (List ℕ → List ℕ) → (List ℕ → ℕ) → Auditor P B A → List ℕ → Type 0
HasListened V W e w text lost k s =
    HeardAll V W k (decoded_stream e s) (text s) × (way_of V k ≡ w) × HasNoted (lost s) k
