use Rattle.std.proofs.Common.{take}
use Rattle.esc_account.specs.Rules.{rule_of}
use Rattle.esc_sanitize.proofs.Auditing.{shown_pass}
use Rattle.esc_sanitize.proofs.judging.JudgingJudge.passing.Goals as goal

pub returns-clause-pass : goal.returns-clause-pass
returns-clause-pass g c =
    let j = c.args.self.now in
    shown_pass j.show (rule_of j.policy.by_lines j.policy.guard j.policy.limit
    (g.P.Admit.admits j.policy.policy)) c.args.before c.passing.result.1
    (take c.passing.result.0 c.args.bytes.now)
    c.passing.ensures.pass
