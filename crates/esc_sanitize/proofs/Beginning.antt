-- Filters at the beginning of a stream.
use Rattle.std.proofs.Common.{ℕ, ◌≡◌, Bool, true, false, [], None, Some, ap, sym, ◌∙◌}
use Rattle.esc_actions.specs.Values.{Value}
use Rattle.esc_decode.specs.Decodings.{OnlyAdds}
use Rattle.esc_filter.specs.declared.admit.Admit.{Ghosts as Admitter}
use Rattle.esc_filter.specs.declared.guard.Guard.{Guard}
use Rattle.esc_normal.specs.declared.feeding.StreamFilter.{Ghosts as Feeder}
use Rattle.caret_notation.proofs.Filters.BeginsAsOneFilter.{through_nothing}
use Rattle.caret_notation.specs.Through.{through, through_whole}
use Rattle.caret_notation.specs.declared.marking.Marking.{Marking}
use Rattle.caret_notation.specs.declared.reveal.Rule.{Rule}
use Rattle.esc_sanitize.proofs.Texts.{going_shown, through_adds, whole_shown}
use Rattle.esc_sanitize.specs.Chains.{Begins}
use Rattle.esc_sanitize.specs.Written.{closed_by, closed_of, going_by, opened_of, revealed_by, revealed_whole_by}
use Rattle.esc_sanitize.specs.declared.options.FilterOptions.{FilterOptions}

module _ {F A : Type 0} (G : Feeder F A) (f : F) (u : Guard) (limit : ℕ) (p : Value A → Bool) where
  -- a filter of lines, in which renditions go on or do not
  pub begins_lined : (r k : Bool) → r ≡ k
      → G.gives f (going_by k u true limit p) (closed_by k u true limit p) []
      → OnlyAdds (going_by k u true limit p) (closed_by k u true limit p)
      → going_by k u true limit p [] ≡ []
      → Begins G f (going_by r u true limit p) (closed_by r u true limit p)
  begins_lined r k is given adds empty = record {
    going = going_by k u true limit p;
    closed = closed_by k u true limit p;
    given = given;
    adds = adds;
    empty = empty;
    goes_on = λ s. ap (λ j. going_by j u true limit p s) (sym is);
    ends = λ s. ap (λ j. closed_by j u true limit p s) (sym is);
  }

  -- the same, as one of lines or of the whole
  pub begins_framed : {H : Type 0} (L : Feeder H A) (h : H) (r b : Bool) → b ≡ true
      → (k : Begins G f (going_by r u true limit p) (closed_by r u true limit p))
      → L.gives h k.going k.closed []
      → Begins L h (going_by r u b limit p) (closed_by r u b limit p)
  begins_framed L h r b is k given = record {
    going = k.going;
    closed = k.closed;
    given = given;
    adds = k.adds;
    empty = k.empty;
    goes_on = λ s. k.goes_on s ∙ ap (λ j. going_by r u j limit p s) (sym is);
    ends = λ s. k.ends s ∙ ap (λ j. closed_by r u j limit p s) (sym is);
  }

  -- a filter of the whole
  pub begins_whole : (r b : Bool) → b ≡ false
      → G.gives f (going_by r u false limit p) (closed_by r u false limit p) []
      → OnlyAdds (going_by r u false limit p) (closed_by r u false limit p)
      → going_by r u false limit p [] ≡ []
      → Begins G f (going_by r u b limit p) (closed_by r u b limit p)
  begins_whole r b is given adds empty = record {
    going = going_by r u false limit p;
    closed = closed_by r u false limit p;
    given = given;
    adds = adds;
    empty = empty;
    goes_on = λ s. ap (λ j. going_by r u j limit p s) (sym is);
    ends = λ s. ap (λ j. closed_by r u j limit p s) (sym is);
  }

module _ {F P A : Type 0} (G : Feeder F A) (V : Admitter P A) (f : F) (o : FilterOptions P)
    (b : Begins G f (going_by o.resumes o.guard o.by_lines o.limit (V.admits o.policy))
    (closed_by o.resumes o.guard o.by_lines o.limit (V.admits o.policy))) where
  -- where nothing is shown
  pub begins_alone : o.show ≡ None → Begins G f (opened_of V o) (closed_of V o)
  begins_alone is = record {
    going = b.going;
    closed = b.closed;
    given = b.given;
    adds = b.adds;
    empty = b.empty;
    goes_on = λ s. b.goes_on s
        ∙ ap (λ w. going_by o.resumes o.guard o.by_lines o.limit (V.admits o.policy)
        (revealed_by V o w s)) (sym is);
    ends = λ s. b.ends s
        ∙ ap (λ w. closed_by o.resumes o.guard o.by_lines o.limit (V.admits o.policy)
        (revealed_whole_by V o w s)) (sym is);
  }

  -- where what does not pass is shown, by this rule
  pub begins_shown : {H : Type 0} (L : Feeder H A) (h : H) (rule : Rule P) (k : Marking)
      → o.show ≡ Some k → rule.limit ≡ o.limit
      → (rule.by_lines ≡ o.by_lines) × (rule.marking ≡ k) → rule.policy ≡ o.policy
      → L.gives h (through V rule b.going) (through_whole V rule b.closed) []
      → Begins L h (opened_of V o) (closed_of V o)
  begins_shown L h rule k is limit lines policy given = record {
    going = through V rule b.going;
    closed = through_whole V rule b.closed;
    given = given;
    adds = through_adds V rule b.going b.closed b.adds;
    empty = through_nothing V rule b.going b.closed b.empty;
    goes_on = λ s. ap b.going (going_shown V rule o k limit lines policy s)
        ∙ b.goes_on (revealed_by V o (Some k) s)
        ∙ ap (λ w. going_by o.resumes o.guard o.by_lines o.limit (V.admits o.policy)
        (revealed_by V o w s)) (sym is);
    ends = λ s. ap b.closed (whole_shown V rule o k limit lines policy s)
        ∙ b.ends (revealed_whole_by V o (Some k) s)
        ∙ ap (λ w. closed_by o.resumes o.guard o.by_lines o.limit (V.admits o.policy)
        (revealed_whole_by V o w s)) (sym is);
  }
