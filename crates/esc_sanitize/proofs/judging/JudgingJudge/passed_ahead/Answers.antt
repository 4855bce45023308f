use Rattle.std.proofs.Common.{take}
use Rattle.esc_account.specs.Rules.{rule_of}
use Rattle.esc_sanitize.proofs.Auditing.{shown_passed}
use Rattle.esc_sanitize.proofs.judging.JudgingJudge.passed_ahead.Goals as goal

pub returns-clause-passed : goal.returns-clause-passed
returns-clause-passed g c = λ some.
    let j = c.args.self.now in
    shown_passed j.show (rule_of j.policy.by_lines j.policy.guard j.policy.limit
    (g.P.Admit.admits j.policy.policy)) (take c.passed_ahead.result c.args.bytes.now)
    (c.passed_ahead.ensures.passed some)
