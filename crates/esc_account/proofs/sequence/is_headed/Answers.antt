use Rattle.std.proofs.Common.{length}
use Rattle.esc_account.proofs.Fates.FateOfSequence.{headed}
use Rattle.esc_account.proofs.sequence.is_headed.Goals as goal

pub returns-then-is_same : goal.returns-then-is_same
returns-then-is_same c = λ h.
    headed (length c.args.head.now) c.args.bytes.now _ _ c.args.head.now _
    c.split_at.ensures.front c.split_at.ensures.back
    (c.is_same.ensures.0 c.if-is_same.true) (c.is_last.ensures h)
