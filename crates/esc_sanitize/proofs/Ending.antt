-- The text that is written of a stream, in the words of the options.
use Rattle.std.proofs.Common.{ℕ, ◌≡◌, Bool, true, false, List, Result, Some, refl, subst}
use Rattle.std.specs.declared.io.traits.Read.{Ghosts as Reader}
use Rattle.std.specs.declared.io.traits.Write.{Ghosts as Writer}
use Rattle.esc_actions.specs.Values.{Value}
use Rattle.esc_filter.proofs.Output.NothingWasFed.{filters}
use Rattle.esc_filter.specs.Lines.{IsFilteredByLinesAs, closed_by_lines_as, text_by_lines_as}
use Rattle.esc_filter.specs.Passing.{IsFilteredAs, closed_text_as, passed_text_as}
use Rattle.esc_filter.specs.declared.admit.Admit.{Ghosts as Admitter}
use Rattle.esc_filter.specs.declared.guard.Guard.{Guard}
use Rattle.esc_normal.specs.Io.{Borrowed}
use Rattle.esc_normal.specs.Streams.{Filters, IsEither}
use Rattle.esc_normal.specs.declared.filter_error.FilterError.{FilterError}
use Rattle.esc_sanitize.specs.Written.{IsWritten, closed_by, going_by, going_of, is_passed_by, lined_text, passed_of, passing_of, seen_by, text_of}
use Rattle.esc_sanitize.specs.declared.options.FilterOptions.{FilterOptions}

passed_by : {A : Type 0} (r : Bool) (u : Guard) (b : Bool) (limit : ℕ) (p : Value A → Bool)
    → ((s : List ℕ) → IsFilteredByLinesAs true u limit p s (closed_by_lines_as u limit p s))
    → ((s : List ℕ) → IsFilteredAs u true (Some limit) p s (closed_text_as u (Some limit) p s))
    → (s : List ℕ) → is_passed_by r u b true limit p s (closed_by r u b limit p s)
passed_by r u true limit p lines all s = lines (lined_text r u limit p s)
passed_by r u false limit p lines all s = all s

passing_by : {A : Type 0} (r : Bool) (u : Guard) (b : Bool) (limit : ℕ) (p : Value A → Bool)
    → ((s : List ℕ) → IsFilteredByLinesAs false u limit p s (text_by_lines_as u limit p s))
    → ((s : List ℕ) → IsFilteredAs u false (Some limit) p s (passed_text_as u (Some limit) p s))
    → (s : List ℕ) → is_passed_by r u b false limit p s (going_by r u b limit p s)
passing_by r u true limit p lines all s = lines (lined_text r u limit p s)
passing_by r u false limit p lines all s = all s

module _ {P A : Type 0} (V : Admitter P A) (o : FilterOptions P) where
  pub text_is : ((s : List ℕ) → IsFilteredByLinesAs true o.guard o.limit (V.admits o.policy) s
      (closed_by_lines_as o.guard o.limit (V.admits o.policy) s))
      → ((s : List ℕ) → IsFilteredAs o.guard true (Some o.limit) (V.admits o.policy) s
      (closed_text_as o.guard (Some o.limit) (V.admits o.policy) s))
      → (s : List ℕ) → IsWritten V o true s (text_of V o s)
  text_is lines all s = (
    passed_of V o s,
    passed_by o.resumes o.guard o.by_lines o.limit (V.admits o.policy) lines all
        (seen_by V o true s),
    refl,
  )

  pub going_is : ((s : List ℕ) → IsFilteredByLinesAs false o.guard o.limit (V.admits o.policy) s
      (text_by_lines_as o.guard o.limit (V.admits o.policy) s))
      → ((s : List ℕ) → IsFilteredAs o.guard false (Some o.limit) (V.admits o.policy) s
      (passed_text_as o.guard (Some o.limit) (V.admits o.policy) s))
      → (s : List ℕ) → IsWritten V o false s (going_of V o s)
  going_is lines all s = (
    passing_of V o s,
    passing_by o.resumes o.guard o.by_lines o.limit (V.admits o.policy) lines all
        (seen_by V o false s),
    refl,
  )

-- the texts of these options, which are those, in their words
pub written_as : {R W X P A : Type 0} {Rd : Reader R} {Wr : Writer W} (V : Admitter P A)
    (o q : FilterOptions P) → q ≡ o → ((s : List ℕ) → IsWritten V o true s (text_of V o s))
    → ((s : List ℕ) → IsWritten V o false s (going_of V o s))
    → (result : Result X FilterError) (reader : Borrowed R) (writer : Borrowed W)
    → Filters Rd Wr (text_of V q) (IsEither (text_of V q) (going_of V q)) result reader writer
    → Filters Rd Wr (text_of V o) (IsWritten V o) result reader writer
written_as {Rd} {Wr} V o q same is so result reader writer f =
    filters (text_of V o) (going_of V o) (IsWritten V o) is so result reader writer
    (subst (λ k. Filters Rd Wr (text_of V k) (IsEither (text_of V k) (going_of V k)) result reader
    writer) same f)
