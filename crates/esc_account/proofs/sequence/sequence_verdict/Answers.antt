use Rattle.esc_frame.specs.Segments.{joined_bytes}
use Rattle.esc_account.proofs.Fates.FateOfSequence.{rule_is, some_by}
use Rattle.esc_account.proofs.Segments.EscapeEndsSegment.{first_shape}
use Rattle.esc_account.proofs.sequence.sequence_verdict.Goals as goal

pub returns-in-Some : goal.returns-in-Some
returns-in-Some g c = λ l u s gs each item.
    some_by c.known_verdict.result _ _ (c.known_verdict.ensures l u)
    (rule_is l u (g.P.Admit.admits c.args.policy.now) c.args.before c.args.limit
    c.args.segment.kind c.args.segment.bytes.now c.args.segment.finished s gs
    c.as_slice.result.now _ _ each item.kind item.bytes item.finished c.in-Some.ensures.csi
    (c.is_short.ensures c.if-not-is_short.false)
    (c.in-Some.ensures.told s (joined_bytes gs) (first_shape s gs each) item) c.as_slice.ensures)

pub returns-then-is_left : goal.returns-then-is_left
returns-then-is_left g c = λ l u s gs each item.
    c.is_left.ensures c.if-is_left.true l u c.args.limit c.args.before s gs each item
