use Rattle.esc_account.proofs.policy_judge.PolicyJudge.other_verdict.Goals as goal

pub returns-then-is_left_end-clause-given : goal.returns-then-is_left_end-clause-given
returns-then-is_left_end-clause-given g c = λ s gs each item.
    let j = c.args.self.now in
    c.is_left_end.ensures c.if-is_left_end.true j.by_lines j.guard j.limit c.args.before s gs each
    item
