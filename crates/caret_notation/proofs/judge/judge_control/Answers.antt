use Rattle.std.proofs.Common.{[], Some, sym, take, ◌∙◌}
use Rattle.caret_notation.proofs.Filters.VerdictOfJudge.{control_found}
use Rattle.caret_notation.proofs.judge.judge_control.Goals as goal

pub returns : goal.returns
returns g c = λ limit h.
    let one = c.in_ok-first_control.ensures.given (Some limit) [] h in (
      one.0,
      c.passes_itself.ensures
          ∙ sym (control_found (g.P.Admit.admits c.args.policy.now) limit
          (take 1 c.args.bytes.now) _ c.in_ok-code.code one.1 (sym c.in_ok-code.ensures)),
    )
