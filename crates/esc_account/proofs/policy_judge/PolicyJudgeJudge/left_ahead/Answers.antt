use Rattle.esc_account.proofs.policy_judge.PolicyJudgeJudge.left_ahead.Goals as goal

pub returns-clause-left : goal.returns-clause-left
returns-clause-left g c = λ some.
    let j = c.args.self.now in
    c.left_sequence.ensures.left some j.by_lines j.guard j.limit
