use Rattle.std.proofs.Common.{sym, ◌∙◌, arith}
use Rattle.esc_segments.proofs.Sequences.{one_pending, one_broken}
use Rattle.esc_segments.proofs.sequence.sequence_ahead.Goals as goal

pub returns-then-bytes-eq1 : goal.returns-then-bytes-eq1
returns-then-bytes-eq1 c = let r = c.requires in
    one_pending c.args.bytes.now (omega arith) r.low r.high

pub returns-else-is_second : goal.returns-else-is_second
returns-else-is_second c =
    let r = c.requires in
    one_broken c.args.bytes.now (omega arith) (omega arith) r.high (sym c.is_second.ensures
    ∙ c.if-is_second.false)
