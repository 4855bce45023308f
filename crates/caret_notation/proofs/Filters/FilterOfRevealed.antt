-- A filter of the revealed text of a stream.
use Rattle.std.proofs.Common.{ℕ, ◌≡◌, List, [], ◌++◌, refl, ap, sym, ◌∙◌, subst, append_assoc}
use Rattle.esc_filter.specs.declared.admit.Admit.{Ghosts as Admitter}
use Rattle.esc_normal.specs.declared.feeding.StreamFilter.{Ghosts as Feeder}
use Rattle.caret_notation.proofs.Spans.SpansGrow.{rest_none}
use Rattle.caret_notation.proofs.Streams.TextStays.{revealed_longer, whole_longer}
use Rattle.caret_notation.specs.Fed.{HasConsumed, text_by, whole_by}
use Rattle.caret_notation.specs.Through.{GivesThrough, OnlyAdds, through, through_whole}
use Rattle.caret_notation.specs.declared.reveal.Reveal.{Reveal}
use Rattle.caret_notation.specs.declared.reveal.Rule.{Rule}

module _ {F P A : Type 0} (G : Feeder F A) (V : Admitter P A) (reveal : Reveal P A) (filter : F)
    (m c : List ℕ → List ℕ) (s : List ℕ) (h : GivesThrough G V reveal filter m c s) where
  abbrev Text : List ℕ → List ℕ
  Text x = text_by V reveal.rule x

  abbrev Whole : List ℕ → List ℕ
  Whole x = whole_by V reveal.rule x

  text_is : (x : List ℕ) → m x ≡ h.inner (Text x)
  text_is x = ap (λ f. f x) h.goes_on

  end_is : c s ≡ h.inner_end (Whole s)
  end_is = ap (λ f. f s) h.ended

  pub through_more : (b : List ℕ) → (t : List ℕ) × (m (s ++ b) ≡ m s ++ t)
  through_more b =
      let (x, e) = revealed_longer reveal.rule.marking reveal.rule.limit reveal.rule.by_lines
      (V.admits reveal.rule.policy) s b in
      let (t, f) = h.adds.more filter (Text s) x h.given in
      (t, text_is (s ++ b) ∙ ap h.inner e ∙ f ∙ ap (λ y. y ++ t) (sym (text_is s)))

  pub through_end : (t : List ℕ) × (c s ≡ m s ++ t)
  through_end =
      let (x, e) = whole_longer reveal.rule.marking reveal.rule.limit reveal.rule.by_lines
      (V.admits reveal.rule.policy) s in
      let (t, f) = h.adds.more filter (Text s) x h.given in
      let (u, k) = h.adds.end filter (Text s) x h.given in (
        t ++ u,
        end_is ∙ ap h.inner_end e ∙ k ∙ ap (λ y. y ++ u) f
            ∙ append_assoc (h.inner (Text s)) t u ∙ ap (λ y. y ++ (t ++ u)) (sym (text_is s)),
      )

-- ---- a filter that was fed nothing

nothing_revealed : {P A : Type 0} (V : Admitter P A) (rule : Rule P)
    → text_by {A = A} V rule [] ≡ []
nothing_revealed V rule = rest_none rule.marking rule.limit

pub through_begins : {F P A : Type 0} (G : Feeder F A) (V : Admitter P A) (reveal : Reveal P A)
    (filter : F) (m c : List ℕ → List ℕ) → G.gives filter m c [] → OnlyAdds G m c
    → HasConsumed [] reveal
    → GivesThrough G V reveal filter (through V reveal.rule m) (through_whole V reveal.rule c) []
through_begins G V reveal filter m c given adds fed = record {
  inner = m;
  inner_end = c;
  adds = adds;
  fed = fed;
  given = subst (G.gives filter m c) (sym (nothing_revealed V reveal.rule)) given;
  goes_on = refl;
  ended = refl;
}
