use Rattle.std.proofs.Common.{arith}
use Rattle.esc_account.proofs.Segments.SequencesWithoutNoise.{sequence_is}
use Rattle.esc_account.proofs.at_once.sequence_end.Goals as goal

pub returns-then-is_final-clause-found : goal.returns-then-is_final-clause-found
returns-then-is_final-clause-found c = λ some.
    let low = c.is_final.ensures c.if-is_final.true in
    sequence_is c.body_run-run.result c.args.bytes.now
    (omega (arith, c.body_run-run.ensures.few)) c.body_run-run.ensures.each
    c.body_run-run.ensures.form low.0 low.1
