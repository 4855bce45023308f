use Rattle.std.proofs.Common.{refl}
use Rattle.std.specs.Fmt.{decimal}
use Rattle.esc_osc_values.proofs.Turns.{written_more}
use Rattle.esc_osc_values.proofs.write_items.write_numbers.Goals as goal

pub loop-number-preserved : goal.loop-number-preserved
loop-number-preserved g c = λ plain.
    let so_far = c.loop-number.invariant plain in
    written_more g.W.Write.write_str_gives decimal c.args.numbers.now c.loop-number.number-index
    0 _ _ _ _ c.loop-number-test.true refl so_far (c.in_ok-write.ensures.writes so_far.plain refl)
