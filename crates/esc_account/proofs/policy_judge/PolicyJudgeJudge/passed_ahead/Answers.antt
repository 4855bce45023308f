use Rattle.esc_account.proofs.policy_judge.PolicyJudgeJudge.passed_ahead.Goals as goal

pub returns-clause-passed : goal.returns-clause-passed
returns-clause-passed g c = λ some.
    let j = c.args.self.now in
    c.passed_rendition.ensures.passed some j.by_lines j.guard j.limit
