-- The text that is written of a stream under options.
use Rattle.std.specs.Prelude.{ℕ, ◌≡◌, Bool, true, false, List, Option, Some, None}
use Rattle.esc_actions.specs.Values.{Value}
use Rattle.esc_decode.specs.Decodings.{decoded_stream}
use Rattle.esc_filter.specs.Lines.{IsFilteredByLinesAs, closed_by_lines_as, text_by_lines_as}
use Rattle.esc_filter.specs.Openings.{resumed_stream}
use Rattle.esc_filter.specs.Passing.{IsFilteredAs, closed_text_as, passed_text_as}
use Rattle.esc_filter.specs.Tokens.{AdmitsAtMost, IsColorText, IsPlainText}
use Rattle.esc_filter.specs.declared.admit.Admit.{Ghosts as Admitter}
use Rattle.esc_filter.specs.declared.guard.Guard.{Guard}
use Rattle.esc_filter.specs.declared.policy.Policy.TheVariants as policy
use Rattle.line_collapse.specs.Streams.{final_of, left_of, values_of}
use Rattle.line_collapse.specs.Windows.{Size}
use Rattle.caret_notation.specs.Revealed.{revealed_as, revealed_whole_as}
use Rattle.caret_notation.specs.declared.marking.Marking.{Marking}
use Rattle.esc_sanitize.specs.declared.options.FilterOptions.{FilterOptions}

-- ---- the text for the filter

-- the text of the decoded stream: itself, or, if bytes that do not pass are shown, its visible form
abbrev pub revealed_by : {P A : Type 0} → Admitter P A → FilterOptions P → Option Marking → List ℕ
    → List ℕ
revealed_by V o None s = s
revealed_by V o (Some m) s = revealed_as m o.by_lines o.limit (V.admits o.policy) s

-- the same of one that has ended
abbrev pub revealed_whole_by : {P A : Type 0} → Admitter P A → FilterOptions P → Option Marking
    → List ℕ → List ℕ
revealed_whole_by V o None s = s
revealed_whole_by V o (Some m) s = revealed_whole_as m o.by_lines o.limit (V.admits o.policy) s

-- the text of the stream, which has ended or goes on
abbrev pub seen_by : {P A : Type 0} → Admitter P A → FilterOptions P → Bool → List ℕ → List ℕ
seen_by V o true s = revealed_whole_by V o o.show (decoded_stream o.encoding s)
seen_by V o false s = revealed_by V o o.show (decoded_stream o.encoding s)

-- ---- the filtered text

-- The lines that are filtered: those of the stream, of which, where r, each but a blank one begins
-- with the renditions that the lines before it leave on, as they are written.
abbrev pub lined_text : {A : Type 0} → Bool → Guard → ℕ → (Value A → Bool) → List ℕ → List ℕ
lined_text {A} true u limit p s = resumed_stream {A = A} true u limit p s
lined_text {A} false u limit p s = s

-- the text t is what passes of the stream s, which has ended or goes on: of each of its lines, in
-- which renditions go on where r, or of the whole
abbrev pub is_passed_by : {A : Type 0} → Bool → Guard → Bool → Bool → ℕ → (Value A → Bool)
    → List ℕ → List ℕ → Type 0
is_passed_by r u true b limit p s t = IsFilteredByLinesAs b u limit p (lined_text r u limit p s) t
is_passed_by r u false b limit p s t = IsFilteredAs u b (Some limit) p s t

-- the text of a stream that goes on, and of one that has ended
abbrev pub going_by : {A : Type 0} → Bool → Guard → Bool → ℕ → (Value A → Bool) → List ℕ → List ℕ
going_by {A} r u true limit p s = text_by_lines_as {A = A} u limit p (lined_text r u limit p s)
going_by {A} r u false limit p s = passed_text_as {A = A} u (Some limit) p s

abbrev pub closed_by : {A : Type 0} → Bool → Guard → Bool → ℕ → (Value A → Bool) → List ℕ
    → List ℕ
closed_by {A} r u true limit p s = closed_by_lines_as {A = A} u limit p (lined_text r u limit p s)
closed_by {A} r u false limit p s = closed_text_as {A = A} u (Some limit) p s

-- by the options, of what a stream becomes by its encoding
abbrev pub opened_of : {P A : Type 0} → Admitter P A → FilterOptions P → List ℕ → List ℕ
opened_of V o s =
    going_by o.resumes o.guard o.by_lines o.limit (V.admits o.policy) (revealed_by V o o.show s)

abbrev pub closed_of : {P A : Type 0} → Admitter P A → FilterOptions P → List ℕ → List ℕ
closed_of V o s =
    closed_by o.resumes o.guard o.by_lines o.limit (V.admits o.policy)
    (revealed_whole_by V o o.show s)

-- and of the stream
abbrev pub passing_of : {P A : Type 0} → Admitter P A → FilterOptions P → List ℕ → List ℕ
passing_of V o s = opened_of V o (decoded_stream o.encoding s)

abbrev pub passed_of : {P A : Type 0} → Admitter P A → FilterOptions P → List ℕ → List ℕ
passed_of V o s = closed_of V o (decoded_stream o.encoding s)

-- ---- the rest of the lines of a text

-- the final rows of a text that goes on, if rows of a screen may be written again
abbrev pub final_text : Type 0 → Option Size → List ℕ → List ℕ
final_text A None u = u
final_text A (Some z) u = final_of z (values_of A u)

-- all rows of a text that has ended
abbrev pub left_text : Type 0 → Option Size → List ℕ → List ℕ
left_text A None u = u
left_text A (Some z) u = left_of z (values_of A u)

-- the text t is what is left of the lines of u, which has ended or goes on
abbrev pub is_left_by : Type 0 → Option Size → Bool → List ℕ → List ℕ → Type 0
is_left_by A r true u t = t ≡ left_text A r u
is_left_by A r false u t = t ≡ final_text A r u

-- ---- the written text

-- the text t is written of the stream s, which has ended or goes on: what is left of the lines of
-- what passes of what it becomes, or of what is revealed of that
abbrev pub IsWritten : {P A : Type 0} → Admitter P A → FilterOptions P → Bool → List ℕ → List ℕ
    → Type 0
IsWritten {A = A} V o b s t = (u : List ℕ)
    × is_passed_by {A = A} o.resumes o.guard o.by_lines b o.limit (V.admits o.policy)
    (seen_by V o b s) u
    × is_left_by A o.window b u t

-- the text of a stream that goes on, and of one that has ended
abbrev pub going_of : {P A : Type 0} → Admitter P A → FilterOptions P → List ℕ → List ℕ
going_of {A = A} V o s = final_text A o.window (passing_of V o s)

abbrev pub text_of : {P A : Type 0} → Admitter P A → FilterOptions P → List ℕ → List ℕ
text_of {A = A} V o s = left_text A o.window (passed_of V o s)

-- ---- its parts

-- this holds of the text of each stream that goes on or has ended, and of each text that is
-- written of one
abbrev pub OfAllWritten : {P A : Type 0} → Admitter P A → FilterOptions P → (List ℕ → Type 0)
    → Type 0
OfAllWritten V o C = ((s : List ℕ) → C (text_of V o s)) × ((s : List ℕ) → C (going_of V o s))
    × ((b : Bool) (s t : List ℕ) → IsWritten V o b s t → C t)

-- The output is plain text if the policy admits no more than `Text`, and rows may not be written
-- again; and it is text of characters, renditions and links if it admits no more than `Color`, and
-- wherever rows may be written again.
pub record IsOfTokens {P A : Type 0} (V : Admitter P A) (o : FilterOptions P) : Type 0 where
  pub plain : o.window ≡ None → AdmitsAtMost policy.Text (V.admits o.policy)
      → OfAllWritten V o IsPlainText
  pub color : AdmitsAtMost policy.Color (V.admits o.policy) → OfAllWritten V o IsColorText
  pub collapsed : (z : Size) → o.window ≡ Some z → OfAllWritten V o IsColorText
