use Rattle.std.proofs.Common.{[], ◌∙◌, Some, true, refl, subst, ap, OnOk, if◌then◌else◌}
use Rattle.esc_filter.specs.Fed.{HasConsumedIn}
use Rattle.esc_filter.specs.Lines.{EndsLine, policy_of_lines}
use Rattle.esc_filter.specs.Closing.{after_values}
use Rattle.esc_filter.specs.Openings.{opening}
use Rattle.esc_filter.specs.Passing.{in_lines, passed_as}
use Rattle.esc_filter.specs.Terminal.{as_at_start}
use Rattle.esc_parse.proofs.Lists.StepsOverLists.{on_ok_more}
use Rattle.esc_filter.proofs.resuming.ResumingFilter.close_line.Goals as goal

pub returns-in-Ok-clause-given : goal.returns-in-Ok-clause-given
returns-in-Ok-clause-given g c = λ u limit l h.
    let old = c.args.self.now in
    let same = c.note_opening.ensures.kept.0 in
    let new = c.end_line.new.self in
    let kept = c.end_line.ensures.kept in
    on_ok_more _ _ c.end_line.result (λ e. (
      e,
      kept.1 ∙ ap (λ z. z.has_failed) same,
      kept.2,
      refl,
      c.in-Ok.ensures.noted
          ∙ ap (λ t. if old.resumes then opening t old.lines.filter.written.pen else []) h.1.1
          ∙ ap (λ p. if old.resumes then opening (after_values
          (passed_as u (Some limit)
          (in_lines true (g.P.Admit.admits (policy_of_lines old.lines))) l)
          as_at_start) p else []) h.1.5,
    ))
    (subst (λ z. HasConsumedIn u true limit (g.P.Admit.admits (policy_of_lines z)) l z.filter
    → OnOk c.end_line.result (EndsLine u (g.P.Admit.admits (policy_of_lines z)) limit l z new)) same
    (c.end_line.ensures.given u limit l) h)
