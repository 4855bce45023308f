use Rattle.std.proofs.Common.{[], Some, ap, ◌∙◌}
use Rattle.esc_actions.specs.Meaning.{meaning_within}
use Rattle.caret_notation.proofs.Filters.VerdictOfJudge.{finds, judged_first}
use Rattle.caret_notation.specs.Judged.{begun, folded_verdict}
use Rattle.caret_notation.proofs.judge.stays.Goals as goal

pub returns-in-Ok-clause-kept : goal.returns-in-Ok-clause-kept
returns-in-Ok-clause-kept g c = λ h.
    let limit = c.args.limit in
    let span = c.args.span.now in
    let fed = c.restart.ensures.fed (Some limit) span h in
    let first = judged_first g.P.Admit limit c.restart.new.self c.unasked-performer.result fed
    c.unasked-performer.ensures.hooks c.unasked-performer.ensures.verdict in
    let more = c.in-Ok.ensures.given limit [] first in (
      more.0.framed,
      c.keeps-keeps.ensures
          ∙ finds (g.P.Admit.admits c.args.policy.now) _ (meaning_within (Some limit) span)
          (more.0.judged
          ∙ ap (λ p. folded_verdict (g.P.Admit.admits p) begun (meaning_within (Some limit) span))
          (more.1 ∙ c.unasked-performer.ensures.policy)),
    )

pub returns-clause-refused : goal.returns-clause-refused
returns-clause-refused g c = λ h.
    let limit = c.args.limit in
    let fed = c.restart.ensures.fed (Some limit) c.args.span.now h in
    let first = judged_first g.P.Admit limit c.restart.new.self c.unasked-performer.result fed
    c.unasked-performer.ensures.hooks c.unasked-performer.ensures.verdict in
    c.in-Err.ensures.refused limit [] first
