use Rattle.std.proofs.Common.{sym, ◌∙◌}
use Rattle.esc_account.specs.Rules.{rule_of}
use Rattle.esc_sanitize.proofs.Auditing.{shown_ends}
use Rattle.esc_sanitize.proofs.judging.JudgingJudge.leaves_ends.Goals as goal

pub returns : goal.returns
returns g c = λ known.
    let j = c.args.self.now in
    shown_ends j.show (rule_of j.policy.by_lines j.policy.guard j.policy.limit
    (g.P.Admit.admits j.policy.policy)) (sym c.is_some.ensures ∙ c.if-is_some.false)
    (c.leaves_ends.ensures known)
