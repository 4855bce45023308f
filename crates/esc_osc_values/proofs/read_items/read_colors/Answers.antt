use Rattle.std.proofs.Common.{sym}
use Rattle.esc_osc_values.proofs.Turns.{color_more, color_wrong, no_part}
use Rattle.esc_osc_values.proofs.read_items.read_colors.Goals as goal

pub returns-in_default-clause-ok : goal.returns-in_default-clause-ok
returns-in_default-clause-ok g c =
    color_wrong (λ p. p.now) c.args.args.now c.loop-part.part-index no_part c.loop-part.made.items _
    c.loop-part-test.true (sym c.in_default.ensures) c.loop-part.invariant

pub loop-part-preserved : goal.loop-part-preserved
loop-part-preserved g c =
    color_more (λ p. p.now) c.args.args.now c.loop-part.part-index no_part c.loop-part.made.items
    c.push.new.vec.items c.in-Some.color _ c.loop-part-test.true (sym c.in-Some.ensures)
    c.in_ok-push.ensures.items c.loop-part.invariant
