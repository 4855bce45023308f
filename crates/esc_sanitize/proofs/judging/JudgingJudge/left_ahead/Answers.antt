use Rattle.std.proofs.Common.{take, sym, ◌∙◌}
use Rattle.esc_account.specs.Rules.{rule_of}
use Rattle.esc_sanitize.proofs.Auditing.{shown_left}
use Rattle.esc_sanitize.proofs.judging.JudgingJudge.left_ahead.Goals as goal

pub returns-clause-left : goal.returns-clause-left
returns-clause-left g c = λ some.
    let j = c.args.self.now in
    shown_left j.show (rule_of j.policy.by_lines j.policy.guard j.policy.limit
    (g.P.Admit.admits j.policy.policy)) (take c.left_ahead.result c.args.bytes.now)
    (sym c.is_some.ensures ∙ c.if-is_some.false) (c.left_ahead.ensures.left some)
