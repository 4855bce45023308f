use Rattle.std.proofs.Common.{refl}
use Rattle.esc_osc_values.specs.Colors.{pair_text}
use Rattle.esc_osc_values.specs.declared.color_or_query.ColorOrQuery.TheVariants.{Color}
use Rattle.esc_osc_values.proofs.Turns.{written_more}
use Rattle.esc_osc_values.proofs.write_items.write_more_pairs.Goals as goal

pub loop-pair-preserved : goal.loop-pair-preserved
loop-pair-preserved g c = λ plain.
    let so_far = c.loop-pair.invariant plain in
    written_more g.W.Write.write_str_gives pair_text c.args.rest.now c.loop-pair.pair-index
    (record { palette_index = 0; color = Color (record { red = 0; green = 0; blue = 0 }) }) _ _ _ _
    c.loop-pair-test.true refl so_far (c.in_ok-write.ensures.writes so_far.plain refl)
