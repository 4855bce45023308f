-- The bytes that a filter was fed, which writes renditions again if they go on over a line feed.
use Rattle.std.specs.Prelude.{ℕ, ◌≡◌, ◌<◌, Bool, true, false, not, if◌then◌else◌, List, [], ◌++◌, length, string_bytes}
use Rattle.esc_actions.specs.Values.{Value}
use Rattle.esc_filter.specs.Lines.{EndsLine, GrowsBy, HasConsumedLines, added_by as added_by_lines, ends_line, passed_of_line, policy_of_lines}
use Rattle.esc_filter.specs.Openings.{opening_at, opening_left, resumed_stream, resumed_closed, resumed_from, resumed_text}
use Rattle.esc_filter.specs.declared.admit.Admit.{Ghosts as Admitter}
use Rattle.esc_filter.specs.declared.guard.Guard.{Guard}
use Rattle.esc_filter.specs.declared.resuming.ResumingFilter.{ResumingFilter}

-- If k, it writes them again: after the stream d it knows whether the last line has begun, and the
-- renditions to write at the beginning of a line.
pub record IsMarked {P A : Type 0} (k : Bool) (u : Guard) (limit : ℕ) (admits : Value A → Bool)
    (d : List ℕ) (f : ResumingFilter P A) : Type 0 where
  pub resumes : f.resumes ≡ k
  pub begun : f.is_open ≡ not (ends_line true d)
  pub opening : ends_line true d ≡ true
      → string_bytes f.opening ≡ opening_at k u limit admits d

-- The filter, of this limit and of a policy that admits these values, was fed these bytes: its
-- filter of lines was fed the stream in which renditions are written again.
pub record ResumedHasConsumed {P A : Type 0} (k : Bool) (u : Guard) (limit : ℕ)
    (admits : Value A → Bool) (s : List ℕ) (f : ResumingFilter P A) : Type 0 where
  pub fed : HasConsumedLines u limit admits (resumed_stream k u limit admits s) f.lines
  pub marks : IsMarked k u limit admits (resumed_stream k u limit admits s) f

-- the text that the bytes fed last added
abbrev pub added_by : {P A : Type 0} → ResumingFilter P A → List ℕ
added_by f = added_by_lines f.lines

abbrev pub policy_of_resuming : {P A : Type 0} → ResumingFilter P A → P
policy_of_resuming f = policy_of_lines f.lines

-- this holds for each stream that the filter may have been fed, its limit, and the values that its
-- policy admits
abbrev pub AfterResumed : {P A : Type 0} → Admitter P A → ResumingFilter P A
    → (Bool → Guard → ℕ → (Value A → Bool) → List ℕ → Type 0) → Type 0
AfterResumed V f C =
    (k : Bool) (u : Guard) (limit : ℕ) (s : List ℕ)
    → ResumedHasConsumed k u limit (V.admits (policy_of_resuming f)) s f
    → C k u limit (V.admits (policy_of_resuming f)) s

-- the filter, which was fed s, was fed b too, and t is the text that b adds
abbrev pub AddsResumed : {P A : Type 0} → Bool → Guard → (Value A → Bool) → ℕ → List ℕ → List ℕ
    → List ℕ → ResumingFilter P A → Type 0
AddsResumed {P} {A} k u admits limit s b t f = ResumedHasConsumed k u limit admits (s ++ b) f
    × (resumed_text {A = A} k u limit admits (s ++ b)
    ≡ resumed_text {A = A} k u limit admits s ++ t)

-- the stream s has ended, and t is the text that its end adds; the filter is at the beginning of
-- the next
abbrev pub EndsResumed : {P A : Type 0} → Bool → Guard → (Value A → Bool) → ℕ → List ℕ → List ℕ
    → ResumingFilter P A → Type 0
EndsResumed {P} {A} k u admits limit s t f = ResumedHasConsumed k u limit admits [] f
    × (resumed_closed {A = A} k u limit admits s
    ≡ resumed_text {A = A} k u limit admits s ++ t)

-- ---- the stream in which they are written again

-- this holds for each such stream that its filter of lines may have been fed
abbrev pub OnStream : {P A : Type 0} → Admitter P A → ResumingFilter P A
    → (Bool → Guard → ℕ → (Value A → Bool) → List ℕ → Type 0) → Type 0
OnStream V f C =
    (k : Bool) (u : Guard) (limit : ℕ) (d : List ℕ)
    → HasConsumedLines u limit (V.admits (policy_of_resuming f)) d f.lines
    → IsMarked k u limit (V.admits (policy_of_resuming f)) d f
    → C k u limit (V.admits (policy_of_resuming f)) d

-- the filter of lines, which was fed d, was fed x too, and its text grew by the text that this adds
abbrev pub GrowsWith : {P A : Type 0} → Bool → Guard → (Value A → Bool) → ℕ → List ℕ → List ℕ
    → ResumingFilter P A → ResumingFilter P A → Type 0
GrowsWith k u admits limit d x old new =
    GrowsBy u admits limit d x old.lines new.lines × IsMarked k u limit admits (d ++ x) new

-- it was fed the bytes that these bytes after d give
abbrev pub GrowsResumed : {P A : Type 0} → Bool → Guard → (Value A → Bool) → ℕ → List ℕ → List ℕ
    → ResumingFilter P A → ResumingFilter P A → Type 0
GrowsResumed k u admits limit d b old new = (x : List ℕ)
    × (resumed_from k u limit admits d b ≡ d ++ x) × GrowsWith k u admits limit d x old new

-- the last line came to its end by these bytes; then the renditions that it leaves on are known, if
-- it is not blank
abbrev pub EndsWith : {P A : Type 0} → Guard → (Value A → Bool) → ℕ → List ℕ → List ℕ
    → ResumingFilter P A → ResumingFilter P A → Type 0
EndsWith u admits limit d b old new = GrowsBy u admits limit d b old.lines new.lines
    × (new.is_open ≡ false)
    × ((ends_line true d ≡ true → 1 < length b)
    → string_bytes new.opening ≡ opening_at old.resumes u limit admits (d ++ b))

-- the last line, which was l, is closed, and its end appended
abbrev pub ClosesWith : {P A : Type 0} → Guard → (Value A → Bool) → ℕ → List ℕ
    → ResumingFilter P A → ResumingFilter P A → Type 0
ClosesWith {P} {A} u admits limit l old new = EndsLine u admits limit l old.lines new.lines
    × (new.lines.has_failed ≡ old.lines.has_failed) × (new.lines.holds ≡ false)
    × (new.is_open ≡ false)
    × (string_bytes new.opening ≡ (if old.resumes
    then opening_left (passed_of_line {A = A} u limit admits l) else []))
