use Rattle.std.proofs.Common.{arith}
use Rattle.std.proofs.lemmas.Bool.{eqb-true}
use Rattle.esc_account.proofs.AtOnce.SeenIsFirst.{other_whole}
use Rattle.esc_account.proofs.sequence.is_other.Goals as goal

pub returns : goal.returns
returns c = λ h.
    other_whole c.args.bytes.now c.other_ahead-count.result (eqb-true _ _ h)
    (c.other_ahead-count.ensures.other (omega (arith, c.if-count-eq0.false)))
