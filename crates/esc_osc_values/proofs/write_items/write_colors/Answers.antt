use Rattle.std.proofs.Common.{refl}
use Rattle.esc_osc_values.specs.Colors.{spec_text}
use Rattle.esc_osc_values.specs.declared.color_or_query.ColorOrQuery.TheVariants.{Color}
use Rattle.esc_osc_values.proofs.Turns.{written_more}
use Rattle.esc_osc_values.proofs.write_items.write_colors.Goals as goal

pub loop-color-preserved : goal.loop-color-preserved
loop-color-preserved g c = λ plain.
    let so_far = c.loop-color.invariant plain in
    written_more g.W.Write.write_str_gives spec_text c.args.colors.now c.loop-color.color-index
    (Color (record { red = 0; green = 0; blue = 0 })) _ _ _ _
    c.loop-color-test.true refl so_far (c.in_ok-write.ensures.writes so_far.plain refl)
