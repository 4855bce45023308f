-- The bytes that a reveal was fed, and the growth of its text.
use Rattle.std.proofs.Common.{ℕ, Vec, ◌≡◌, ◌≤◌, ◌&&◌, Bool, true, false, nat_le, if◌then◌else◌, Some, length, List, [], ◌∷◌, ◌++◌, ap, sym, ◌∙◌, subst, append_assoc}
use Rattle.std.specs.List.{flat_map}
use Rattle.esc_actions.specs.Meaning.{meaning_within}
use Rattle.esc_actions.specs.Values.{Value}
use Rattle.esc_filter.specs.Lines.{is_line_feed}
use Rattle.esc_normal.specs.Normalising.{normal_form}
use Rattle.esc_filter.specs.declared.admit.Admit.{Ghosts as Admitter}
use Rattle.caret_notation.proofs.Spans.CharactersAreSpans.{admitted_stays}
use Rattle.caret_notation.proofs.Spans.MoreOfSpan.{part_makes}
use Rattle.caret_notation.proofs.Spans.SpansGrow.{all_append, grows_more, line_ends, nothing_more, rest_append, rest_none}
use Rattle.caret_notation.specs.Fed.{AtRest, GrowsBy, closed_text}
use Rattle.caret_notation.specs.Grown.{Grows}
use Rattle.caret_notation.specs.Spans.{is_at_ground, spans, rest, rest_after}
use Rattle.caret_notation.specs.Revealed.{are_kept, span_text, revealed_as, revealed_whole_as}
use Rattle.caret_notation.specs.Runs.{IsAdmittedText, IsPart}
use Rattle.caret_notation.specs.Visible.{lets_stay, rest_text, shown_text}
use Rattle.caret_notation.specs.Spelled.{is_spelled}
use Rattle.caret_notation.specs.declared.reveal.Reveal.{Reveal}
use Rattle.caret_notation.specs.declared.reveal.Rule.{Rule}

-- the text is no part of the state that was fed
pub at_text : {P A : Type 0} (r : List ℕ) (f : Reveal P A) (t : Vec ℕ A) → AtRest r f
    → AtRest r (record f { text = t })
at_text r f t h = record {
  unfailed = h.unfailed;
  framed = h.framed;
  kept = h.kept;
}

module _ {P A : Type 0} (V : Admitter P A) (rule : Rule P) (r : List ℕ) (b : ℕ)
    (new : Reveal P A) (t0 t1 t2 : List ℕ) where
  abbrev admits : Value A → Bool
  admits v = V.admits rule.policy v

  -- a line feed that ends a span
  pub line_grows : (rule.by_lines && is_line_feed b) ≡ true
      → Grows t0 t1 (rest_text rule.marking rule.limit r) (shown_text rule.marking r) → t2 ≡ t1 ++ b
      ∷ []
      → AtRest [] new → GrowsBy V rule r (b ∷ []) t0 t2 new
  line_grows h (t, e, f) k at =
      let ends = line_ends rule.marking rule.by_lines rule.limit admits r b h in (
        subst (λ x. AtRest x new) (sym ends.0) at,
        (
          t ++ b ∷ [],
          ends.1 ∙ ap (λ x. x ++ b ∷ []) e
              ∙ append_assoc (rest_text rule.marking rule.limit r) t (b ∷ []),
          k ∙ ap (λ x. x ++ b ∷ []) f ∙ append_assoc t0 t (b ∷ []),
        ),
      )

-- more of a span, at most up to its end
module _ {P A : Type 0} (V : Admitter P A) (rule : Rule P) (r x : List ℕ)
    (new : Reveal P A) (t0 t1 : List ℕ) (part : IsPart rule.by_lines r x) where
  abbrev admitted : Value A → Bool
  admitted v = V.admits rule.policy v

  abbrev q : List ℕ
  q = r ++ x

  -- if no segment is unfinished after it
  pub end_grows : is_at_ground q ≡ true
      → Grows t0 t1 (rest_text rule.marking rule.limit r) (closed_text V rule q) → AtRest [] new
      → GrowsBy V rule r x t0 t1 new
  end_grows h grown at =
      let ends = (part_makes rule.marking rule.by_lines rule.limit admitted r x part).0 h in (
        subst (λ y. AtRest y new) (sym ends.0) at,
        subst (Grows t0 t1 (rest_text rule.marking rule.limit r)) (sym ends.1) grown,
      )

  -- if one is
  pub more_grows : is_at_ground q ≡ false
      → Grows t0 t1 (rest_text rule.marking rule.limit r) (rest_text rule.marking rule.limit q)
      → AtRest q new
      → GrowsBy V rule r x t0 t1 new
  more_grows h grown at =
      let goes = (part_makes rule.marking rule.by_lines rule.limit admitted r x part).1 h in (
        subst (λ y. AtRest y new) (sym goes.0) at,
        subst (Grows t0 t1 (rest_text rule.marking rule.limit r)) (sym goes.1) grown,
      )

-- a span that came at once
module _ {P A : Type 0} (V : Admitter P A) (rule : Rule P) (x : List ℕ) where
  abbrev passing : Value A → Bool
  passing v = V.admits rule.policy v

  pub at_once : (t0 t1 : List ℕ) → t1 ≡ t0 ++ closed_text V rule x
      → Grows t0 t1 (rest_text rule.marking rule.limit []) (closed_text V rule x)
  at_once t0 t1 e = (
    closed_text V rule x,
    ap (λ z. z ++ closed_text V rule x) (sym (rest_none rule.marking rule.limit)),
    e,
  )

  -- all of its bytes are in the text of its meaning
  abbrev spelled : Bool
  spelled = is_spelled x (normal_form A (Some rule.limit) x)

  -- it is short enough, and has no marks if these are shown
  abbrev fits : Bool
  fits = nat_le (length x) rule.limit && lets_stay rule.marking x

  module _ (k : Bool) (e : k ≡ are_kept passing (meaning_within (Some rule.limit) x)) where
    by_test : (b : Bool) → (fits && (k && spelled)) ≡ b
        → closed_text V rule x ≡ (if b then x else shown_text rule.marking x)
    by_test b h =
        ap (λ y. if fits && (y && spelled) then x else shown_text rule.marking x) (sym e)
        ∙ ap (λ y. if y then x else shown_text rule.marking x) h

    pub stays_as : (t : Bool) → t ≡ (fits && (k && spelled)) → t ≡ true
        → closed_text V rule x ≡ x
    stays_as t is h = by_test true (sym is ∙ h)

    pub shown_as : (t : Bool) → t ≡ (fits && (k && spelled)) → t ≡ false
        → closed_text V rule x ≡ shown_text rule.marking x
    shown_as t is h = by_test false (sym is ∙ h)

module _ {P A : Type 0} (V : Admitter P A) (rule : Rule P) where
  abbrev allows : Value A → Bool
  allows v = V.admits rule.policy v

  -- nothing, and then more
  pub grown_not : (r t0 : List ℕ) (f : Reveal P A) → AtRest r f → GrowsBy V rule r [] t0 t0 f
  grown_not r t0 f h = (h, nothing_more rule.marking rule.by_lines rule.limit allows r t0)

  pub grown_more : (r x y t0 t1 t2 : List ℕ) (mid new : Reveal P A)
      → GrowsBy V rule r x t0 t1 mid
      → GrowsBy V rule (rest_after rule.by_lines r x) y t1 t2 new
      → GrowsBy V rule r (x ++ y) t0 t2 new
  grown_more r x y t0 t1 t2 mid new (at, a) (later, b) = (
    subst (λ z. AtRest z new) (sym (rest_append rule.by_lines r x y)) later,
    grows_more rule.marking rule.by_lines rule.limit allows r x y t0 t1 t2 a b,
  )

  -- ---- characters that pass

  pub text_grows : (r xs t0 t1 : List ℕ) (new : Reveal P A) → r ≡ []
      → IsAdmittedText allows xs → lets_stay rule.marking xs ≡ true → 4 ≤ rule.limit
      → AtRest r new → t1 ≡ t0 ++ xs
      → GrowsBy V rule r xs t0 t1 new
  text_grows r xs t0 t1 new e h free l at k =
      subst (λ z. GrowsBy V rule z xs t0 t1 new) (sym e)
      (let stays = admitted_stays rule.marking rule.by_lines rule.limit allows l xs h free in (
        subst (λ z. AtRest z new) (e ∙ sym stays.0) at,
        (xs, stays.1 ∙ ap (λ z. z ++ xs) (sym (rest_none rule.marking rule.limit)), k),
      ))

  -- ---- whole streams

  abbrev Text : List ℕ → List ℕ
  Text s = revealed_as {A = A} rule.marking rule.by_lines rule.limit allows s

  pub adds_all : (s b t : List ℕ) (new : Reveal P A)
      → GrowsBy V rule (rest rule.by_lines s) b [] t new
      → AtRest (rest rule.by_lines (s ++ b)) new × (Text (s ++ b) ≡ Text s ++ t)
  adds_all s b t new (at, (u, e, f)) =
      let done = flat_map (span_text rule.marking rule.by_lines rule.limit allows)
      (spans rule.by_lines s) in
      let m = rest_text rule.marking rule.limit (rest rule.by_lines s) in (
        subst (λ z. AtRest z new) (sym (rest_append rule.by_lines [] s b)) at,
        all_append rule.marking rule.by_lines rule.limit allows [] s b ∙ ap (λ z. done ++ z) e
            ∙ sym (append_assoc done m u) ∙ ap (λ z. (done ++ m) ++ z) (sym f),
      )

  pub ends_all : (s t : List ℕ)
      → Grows [] t (rest_text rule.marking rule.limit (rest rule.by_lines s))
      (shown_text rule.marking (rest rule.by_lines s))
      → revealed_whole_as {A = A} rule.marking rule.by_lines rule.limit allows s ≡ Text s ++ t
  ends_all s t (u, e, f) =
      let done = flat_map (span_text rule.marking rule.by_lines rule.limit allows)
      (spans rule.by_lines s) in
      let m = rest_text rule.marking rule.limit (rest rule.by_lines s) in
      ap (λ z. done ++ z) e ∙ sym (append_assoc done m u) ∙ ap (λ z. (done ++ m) ++ z) (sym f)
