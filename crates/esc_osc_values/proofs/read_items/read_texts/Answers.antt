use Rattle.std.proofs.Common.{◌∙◌}
use Rattle.std.specs.Str.Lossy.{utf8_lossy}
use Rattle.esc_osc_values.proofs.Turns.{mapped_left, no_part}
use Rattle.esc_osc_values.proofs.read_items.read_texts.Goals as goal

pub loop-part-preserved : goal.loop-part-preserved
loop-part-preserved g c =
    mapped_left utf8_lossy (λ p. p.now) c.args.args.now c.loop-part.part-index no_part
    c.loop-part.made.items c.push.new.vec.items _ c.from_string.result c.loop-part-test.true
    (c.from_string.ensures ∙ c.in_ok-lossy.ensures.ok) c.in_ok-push.ensures.items
    c.loop-part.invariant
