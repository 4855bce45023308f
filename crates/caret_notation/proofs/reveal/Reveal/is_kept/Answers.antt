use Rattle.std.proofs.Common.{ℕ, Bool, List, ◌&&◌, Some, ap, sym, ◌∙◌, subst}
use Rattle.esc_actions.specs.Meaning.{meaning_within}
use Rattle.esc_frame.specs.Stream.{HasConsumedWithin}
use Rattle.esc_normal.specs.Normalising.{normal_form}
use Rattle.esc_parse.proofs.Lists.StepsOverLists.{if_ok_more}
use Rattle.caret_notation.specs.Revealed.{are_kept}
use Rattle.caret_notation.specs.Spelled.{is_spelled}
use Rattle.caret_notation.specs.Visible.{lets_stay}
use Rattle.caret_notation.proofs.reveal.Reveal.is_kept.Goals as goal

pub returns-then-not-lets_stay-clause-given : goal.returns-then-not-lets_stay-clause-given
returns-then-not-lets_stay-clause-given g c = λ r h.
    let rule = c.args.self.now.rule in
    let admits = g.P.Admit.admits rule.policy in
    let span = c.in-Some.ensures rule.limit r h.kept in
    let goes : Bool = are_kept admits (meaning_within (Some rule.limit) r)
    && is_spelled r (normal_form g.row.A.Denot (Some rule.limit) r) in
    let marked = sym c.lets_stay.ensures ∙ c.if-not-lets_stay.true in (
      h,
      sym (ap (λ b. (b && lets_stay rule.marking r) && goes) span.1
          ∙ ap (λ p. lets_stay rule.marking p && goes) (sym span.0)
          ∙ ap (λ b. b && goes) marked),
    )

pub returns-else-not-lets_stay-clause-given : goal.returns-else-not-lets_stay-clause-given
returns-else-not-lets_stay-clause-given g c = λ r h.
    let old = c.args.self.now in
    let m = old.rule.marking in
    let admits = g.P.Admit.admits old.rule.policy in
    let span = c.in-Some.ensures old.rule.limit r h.kept in
    let fed = subst (λ p. HasConsumedWithin (Some old.rule.limit) p old.framer) (sym span.0)
    h.framed
    in
    let goes : List ℕ → Bool = λ p. are_kept admits (meaning_within (Some old.rule.limit) p)
    && is_spelled p (normal_form g.row.A.Denot (Some old.rule.limit) p) in
    let free = sym c.lets_stay.ensures ∙ c.if-not-lets_stay.false in
    if_ok_more _ _ c.stays_spelled.result (λ k e. (
      record {
        unfailed = h.unfailed;
        framed = subst (λ p. HasConsumedWithin (Some old.rule.limit) p c.stays_spelled.new.framer)
            span.0 e.0;
        kept = h.kept;
      },
      e.1 ∙ ap goes span.0
          ∙ ap (λ b. b && goes r) (sym (ap (λ b. b && lets_stay m r) span.1
          ∙ ap (lets_stay m) (sym span.0) ∙ free)),
    )) (c.stays_spelled.ensures.kept fed)

pub returns-else-not-lets_stay-clause-refused : goal.returns-else-not-lets_stay-clause-refused
returns-else-not-lets_stay-clause-refused g c = λ r h.
    let old = c.args.self.now in
    let span = c.in-Some.ensures old.rule.limit r h.kept in
    c.stays_spelled.ensures.refused
    (subst (λ p. HasConsumedWithin (Some old.rule.limit) p old.framer) (sym span.0) h.framed)
