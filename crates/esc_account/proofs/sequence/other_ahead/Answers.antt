use Rattle.std.proofs.Common.{take, sym, ◌∙◌, subst, arith}
use Rattle.esc_account.specs.AtOnce.{IsSequence}
use Rattle.esc_account.proofs.AtOnce.SeenIsFirst.{other_is}
use Rattle.esc_account.proofs.sequence.other_ahead.Goals as goal

pub returns-clause-other : goal.returns-clause-other
returns-clause-other c = λ some.
    let n = c.sequence_end-end.result.0 in
    let f = c.sequence_end-end.result.1 in
    other_is c.args.bytes.now n f (omega (arith, c.if-bytes-lt3.false)) c.if-bytes-ne27.false
    c.if-bytes-ne91.false
    (subst (λ v. IsSequence (take n v) f) c.after.ensures
    (c.sequence_end-end.ensures.found (omega (arith, c.if-end-eq0.false))))
    (sym c.is_rendition.ensures ∙ c.if-is_rendition.false)
