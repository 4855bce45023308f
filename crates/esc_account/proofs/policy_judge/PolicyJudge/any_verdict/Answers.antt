use Rattle.std.proofs.Common.{Some, refl, ◌∙◌}
use Rattle.esc_frame.specs.Segments.{bytes_of, is_finished, joined_bytes}
use Rattle.esc_segments.specs.Items.{kind_of}
use Rattle.esc_actions.specs.Readings.{reading_within}
use Rattle.esc_account.proofs.Fates.FateByFacts.{verdict_is}
use Rattle.esc_account.proofs.Fates.FateByPolicy.{same_verdict}
use Rattle.esc_account.proofs.Fates.ResultsOfEqualValues.{spelled_ok}
use Rattle.esc_account.proofs.policy_judge.PolicyJudge.any_verdict.Goals as goal

pub returns-in-Ok-clause-given : goal.returns-in-Ok-clause-given
returns-in-Ok-clause-given g c = λ s gs each item.
    let j = c.args.self.now in
    let b = c.args.before in
    let admits = g.P.Admit.admits j.policy in
    let reading = reading_within (Some j.limit) s (is_finished s (joined_bytes gs)) in
    spelled_ok _ _ _ (c.verdict_of.ensures.given s gs each item)
    (verdict_is j.by_lines j.guard admits b c.args.segment.kind c.args.segment.bytes.now reading
    c.in-Ok.weighed (c.in-Ok.ensures.given s gs each item)
    ∙ same_verdict j.by_lines j.guard admits b c.args.segment.kind (kind_of s)
    c.args.segment.bytes.now (bytes_of s) reading reading item.kind item.bytes refl)
