use Rattle.std.proofs.Common.{take}
use Rattle.esc_account.proofs.Segments.SequencesWithoutNoise.{left_out}
use Rattle.esc_account.proofs.sequence.left_sequence.Goals as goal

pub returns-then-known-clause-left : goal.returns-then-known-clause-left
returns-then-known-clause-left g c = λ some l u limit.
    left_out l u limit (g.P.Admit.admits c.args.policy.now)
    (take c.other_ahead.result c.args.bytes.now) (c.other_ahead.ensures.other some)
    (c.known.ensures.no_functions c.if-known.true)
