-- Each text that is written consists of parts.
use Rattle.std.proofs.Common.{ℕ, ◌≡◌, Bool, true, false, List, Option, Some, None, refl, sym, subst}
use Rattle.esc_actions.specs.Values.{Value}
use Rattle.esc_filter.proofs.Output.AdmittedTextsAreUnits.{least}
use Rattle.esc_filter.specs.Lines.{closed_by_lines_as, text_by_lines_as}
use Rattle.esc_filter.specs.Passing.{closed_text_as, passed_text_as}
use Rattle.esc_filter.specs.Tokens.{AdmitsAtMost, IsColorText, IsOfTokens}
use Rattle.esc_filter.specs.declared.admit.Admit.{Ghosts as Admitter}
use Rattle.esc_filter.specs.declared.guard.Guard.{Guard}
use Rattle.line_collapse.specs.Streams.{final_of, left_of, values_of}
use Rattle.line_collapse.specs.Windows.{Size}
use Rattle.esc_sanitize.specs.Written.{OfAllWritten, closed_by, final_text, going_by, is_left_by, is_passed_by, left_text, lined_text, passed_of, passing_of, seen_by}
use Rattle.esc_sanitize.specs.declared.options.FilterOptions.{FilterOptions}

-- ---- the filtered text

module _ (A : Type 0) (k : Bool)
    (goes_on : (u : Guard) (limit : Option ℕ) (f : Value A → Bool) → AdmitsAtMost (least k) f
    → (s : List ℕ) → IsOfTokens k (passed_text_as u limit f s))
    (ended : (u : Guard) (limit : Option ℕ) (f : Value A → Bool) → AdmitsAtMost (least k) f
    → (s : List ℕ) → IsOfTokens k (closed_text_as u limit f s))
    (by_lines : (u : Guard) (limit : ℕ) (f : Value A → Bool) → AdmitsAtMost (least k) f
    → (s : List ℕ) → IsOfTokens k (text_by_lines_as u limit f s))
    (ended_by_lines : (u : Guard) (limit : ℕ) (f : Value A → Bool) → AdmitsAtMost (least k) f
    → (s : List ℕ) → IsOfTokens k (closed_by_lines_as u limit f s))
  where
    closed_parts : (r : Bool) (u : Guard) (b : Bool) (limit : ℕ) (f : Value A → Bool)
        → AdmitsAtMost (least k) f → (s : List ℕ) → IsOfTokens k (closed_by r u b limit f s)
    closed_parts r u true limit f most s =
        ended_by_lines u limit f most (lined_text r u limit f s)
    closed_parts r u false limit f most s = ended u (Some limit) f most s

    going_parts : (r : Bool) (u : Guard) (b : Bool) (limit : ℕ) (f : Value A → Bool)
        → AdmitsAtMost (least k) f → (s : List ℕ) → IsOfTokens k (going_by r u b limit f s)
    going_parts r u true limit f most s = by_lines u limit f most (lined_text r u limit f s)
    going_parts r u false limit f most s = goes_on u (Some limit) f most s

    passed_parts : (r : Bool) (u : Guard) (b e : Bool) (limit : ℕ) (f : Value A → Bool)
        → AdmitsAtMost (least k) f → (s t : List ℕ) → is_passed_by r u b e limit f s t
        → IsOfTokens k t
    passed_parts r u true true limit f most s t h =
        subst (IsOfTokens k) (sym h.text) (ended_by_lines u limit f most (lined_text r u limit f s))
    passed_parts r u true false limit f most s t h =
        subst (IsOfTokens k) (sym h.text) (by_lines u limit f most (lined_text r u limit f s))
    passed_parts r u false true limit f most s t h =
        subst (IsOfTokens k) (sym h.text) (ended u (Some limit) f most s)
    passed_parts r u false false limit f most s t h =
        subst (IsOfTokens k) (sym h.text) (goes_on u (Some limit) f most s)

    -- where no rows are written again
    left_alone : (b : Bool) (u t : List ℕ) → is_left_by A None b u t → t ≡ u
    left_alone true u t e = e
    left_alone false u t e = e

    pub written_parts : {P : Type 0} (V : Admitter P A) (o : FilterOptions P) → o.window ≡ None
        → AdmitsAtMost {A = A} (least k) (V.admits o.policy) → OfAllWritten V o (IsOfTokens k)
    written_parts V o none most = (
      λ s. subst (λ r. IsOfTokens k (left_text A r (passed_of V o s))) (sym none)
          (closed_parts o.resumes o.guard o.by_lines o.limit (V.admits o.policy) most
          (seen_by V o true s)),
      λ s. subst (λ r. IsOfTokens k (final_text A r (passing_of V o s))) (sym none)
          (going_parts o.resumes o.guard o.by_lines o.limit (V.admits o.policy) most
          (seen_by V o false s)),
      λ b s t h.
          let same : t ≡ h.0 =
          left_alone b h.0 t (subst (λ r. is_left_by A r b h.0 t) none h.2) in
          subst (IsOfTokens k) (sym same)
          (passed_parts o.resumes o.guard o.by_lines b o.limit (V.admits o.policy) most
          (seen_by V o b s) h.0 h.1),
    )

-- ---- the rest of lines

module _ (A : Type 0) (final : (z : Size) (s : List ℕ) → IsColorText (final_of z (values_of A s)))
    (left : (z : Size) (s : List ℕ) → IsColorText (left_of z (values_of A s))) where
  -- the text of rows that may be written again, whatever goes in
  rows_left : (z : Size) (b : Bool) (u t : List ℕ) → is_left_by A (Some z) b u t → IsColorText t
  rows_left z true u t e = subst IsColorText (sym e) (left z u)
  rows_left z false u t e = subst IsColorText (sym e) (final z u)

  pub collapsed_parts : {P : Type 0} (V : Admitter P A) (o : FilterOptions P) (z : Size)
      → o.window ≡ Some z → OfAllWritten V o IsColorText
  collapsed_parts V o z rows = (
    λ s. subst (λ r. IsColorText (left_text A r (passed_of V o s))) (sym rows)
        (left z (passed_of V o s)),
    λ s. subst (λ r. IsColorText (final_text A r (passing_of V o s))) (sym rows)
        (final z (passing_of V o s)),
    λ b s t h. rows_left z b h.0 t (subst (λ r. is_left_by A r b h.0 t) rows h.2),
  )

  -- whether rows are written again or not
  pub any_parts : {P : Type 0} (V : Admitter P A) (o : FilterOptions P)
      → (o.window ≡ None → OfAllWritten V o IsColorText) → OfAllWritten V o IsColorText
  any_parts V o none = by o.window refl
    where
      by : (r : Option Size) → o.window ≡ r → OfAllWritten V o IsColorText
      by None e = none e
      by (Some z) e = collapsed_parts V o z e
