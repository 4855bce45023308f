use Rattle.std.proofs.Common.{refl, ◌∙◌}
use Rattle.std.specs.Str.Lossy.{utf8_lossy}
use Rattle.esc_osc_values.proofs.Turns.{written_more}
use Rattle.esc_osc_values.proofs.write_items.write_more_parts.Goals as goal

pub loop-part-preserved : goal.loop-part-preserved
loop-part-preserved g c = λ plain.
    let so_far = c.loop-part.invariant plain in
    written_more g.W.Write.write_str_gives utf8_lossy c.args.rest.now c.loop-part.part-index
    c.part-item.result c.as_slice.result.now _ _ _
    c.loop-part-test.true (c.as_slice.ensures ∙ c.part-item.is) so_far
    (c.in_ok-write.ensures.writes so_far.plain refl)
