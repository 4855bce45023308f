use Rattle.esc_account.proofs.AtOnce.CommandsAreLeftOut.{end_left_out}
use Rattle.esc_account.proofs.policy_judge.PolicyJudgeJudge.leaves_ends.Goals as goal

pub returns : goal.returns
returns g c = λ known b.
    let j = c.args.self.now in
    end_left_out j.guard j.limit (g.P.Admit.admits j.policy) b j.by_lines
    (c.known.ensures.no_escapes known)
