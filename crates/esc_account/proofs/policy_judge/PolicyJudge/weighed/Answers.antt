use Rattle.std.proofs.Common.{Some}
use Rattle.esc_frame.specs.Segments.{is_finished, joined_bytes}
use Rattle.esc_actions.specs.Readings.{reading_within}
use Rattle.esc_account.specs.Weighed.{facts_of_none}
use Rattle.esc_account.proofs.Fates.FateByFacts.{weighs}
use Rattle.esc_account.proofs.policy_judge.PolicyJudge.weighed.Goals as goal

pub returns-in-Ok-clause-given : goal.returns-in-Ok-clause-given
returns-in-Ok-clause-given g c = λ s gs each item.
    let j = c.args.self.now in
    weighs g.P.Admit.admits j c.args.before c.args.segment.kind (facts_of_none c.args.before)
    (reading_within (Some j.limit) s (is_finished s (joined_bytes gs))) _ _ c.new-sink.ensures
    (c.in-Ok.ensures.given s gs each item)

pub returns-in-Err-clause-refused : goal.returns-in-Err-clause-refused
returns-in-Err-clause-refused g c = c.in-Err.ensures.refused (λ p a q w. absurd w)
