use Rattle.std.proofs.Common.{refl, ◌∙◌, arith}
use Rattle.esc_frame.proofs.ByteRuns.DigitRuns.{number_next, digits_first, digits_more}
use Rattle.esc_frame.proofs.unfinished.fields.read_any_number.Goals as goal

pub loop-end-init : goal.loop-end-init
loop-end-init c =
    let bs = c.args.rest.now in (
      omega arith,
      omega arith,
      c.next_number-number.ensures.small,
      digits_first bs c.requires.some c.requires.low c.requires.high,
      c.next_number-number.ensures.value ∙ number_next 0 bs 0 0 c.requires.some refl,
    )

pub loop-end-preserved : goal.loop-end-preserved
loop-end-preserved c =
    let bs = c.args.rest.now in
    let i = c.loop-end.end in
    let so = c.loop-end.invariant in (
      omega arith,
      omega arith,
      c.next_number-number-in-loop-end.ensures.small,
      digits_more bs i (omega arith) (omega arith) (omega arith) so.3,
      c.next_number-number-in-loop-end.ensures.value ∙ number_next 0 bs i _ (omega arith) so.4,
    )
