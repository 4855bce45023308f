use Rattle.std.proofs.Common.{sym}
use Rattle.esc_osc_values.proofs.Turns.{no_part, number_empty, number_more, number_wrong}
use Rattle.esc_osc_values.proofs.read_items.read_numbers.Goals as goal

pub loop-part-preserved-then-is_empty : goal.loop-part-preserved-then-is_empty
loop-part-preserved-then-is_empty g c =
    number_empty (λ p. p.now) c.args.args.now c.loop-part.part-index no_part
    c.loop-part.made.items _ c.loop-part-test.true (sym c.if-is_empty.ensures) c.loop-part.invariant

pub returns-in_default-clause-ok : goal.returns-in_default-clause-ok
returns-in_default-clause-ok g c =
    number_wrong (λ p. p.now) c.args.args.now c.loop-part.part-index no_part
    c.loop-part.made.items _ c.loop-part-test.true (sym c.if-is_empty.ensures)
    (sym c.in_default.ensures) c.loop-part.invariant

pub loop-part-preserved : goal.loop-part-preserved
loop-part-preserved g c =
    number_more (λ p. p.now) c.args.args.now c.loop-part.part-index no_part c.loop-part.made.items
    c.push.new.vec.items c.in-Some.number _ c.loop-part-test.true (sym c.if-is_empty.ensures)
    (sym c.in-Some.ensures) c.in_ok-push.ensures.items c.loop-part.invariant
