use Rattle.std.proofs.Common.{Some, take, ap, ◌∙◌, arith}
use Rattle.caret_notation.proofs.Filters.VerdictOfJudge.{finds, judged_first}
use Rattle.esc_actions.specs.Meaning.{meaning_within}
use Rattle.caret_notation.specs.Judged.{begun, folded_verdict}
use Rattle.caret_notation.proofs.judge.judge_span.Goals as goal

pub returns-in-Ok-clause-given : goal.returns-in-Ok-clause-given
returns-in-Ok-clause-given g c = λ h.
    let limit = c.args.limit in
    let first = judged_first g.P.Admit limit c.args.framer.now c.unasked-performer.result h
    c.unasked-performer.ensures.hooks c.unasked-performer.ensures.verdict in
    let more = c.in-Ok.ensures.given limit first in
    let s = take c.in-Ok.count c.args.bytes.now in record {
      framed = more.0.framed;
      quiet = more.2;
      judged =
          c.keeps-keeps.ensures
          ∙ finds (g.P.Admit.admits c.args.policy.now) _ (meaning_within (Some limit) s)
          (more.0.judged
          ∙ ap (λ p. folded_verdict (g.P.Admit.admits p) begun (meaning_within (Some limit) s))
          (more.1 ∙ c.unasked-performer.ensures.policy));
    }

pub returns-clause-refused : goal.returns-clause-refused
returns-clause-refused g c = λ h.
    c.in-Err.ensures.refused c.args.limit
    (judged_first g.P.Admit c.args.limit c.args.framer.now c.unasked-performer.result h
    c.unasked-performer.ensures.hooks c.unasked-performer.ensures.verdict)

pub returns-in-Some-clause-given : goal.returns-in-Some-clause-given
returns-in-Some-clause-given g c = λ h.
    let one = c.in-Some.ensures c.args.limit h in record {
      framed = one.0;
      quiet = λ k a b. absurd (omega (arith, a, b));
      judged = one.1;
    }
