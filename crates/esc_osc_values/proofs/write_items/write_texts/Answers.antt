use Rattle.std.proofs.Common.{refl}
use Rattle.esc_osc_values.proofs.Turns.{written_more}
use Rattle.esc_osc_values.proofs.write_items.write_texts.Goals as goal

pub loop-text-preserved : goal.loop-text-preserved
loop-text-preserved g c = λ plain.
    let so_far = c.loop-text.invariant plain in
    written_more g.W.Write.write_str_gives (λ t. t) c.args.texts.now c.loop-text.text-index
    c.text-item.result c.text-item.result _ _ _
    c.loop-text-test.true c.text-item.is so_far (c.in_ok-write_text.ensures so_far.plain refl)
