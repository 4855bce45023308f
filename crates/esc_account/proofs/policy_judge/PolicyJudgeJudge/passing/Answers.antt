use Rattle.esc_account.proofs.policy_judge.PolicyJudgeJudge.passing.Goals as goal

pub returns-clause-pass : goal.returns-clause-pass
returns-clause-pass g c =
    let j = c.args.self.now in
    c.text_run.ensures.pass j.by_lines j.guard j.limit
