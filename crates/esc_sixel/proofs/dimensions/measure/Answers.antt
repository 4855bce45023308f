use Rattle.std.proofs.Common.{rules, ◌<◌, length}
use Rattle.esc_sixel.proofs.Bytes.CountersStep.{walked}
use Rattle.esc_sixel.proofs.dimensions.measure.Goals as goal

pub loop-item-preserved : goal.loop-item-preserved
loop-item-preserved c =
    let i = c.loop-item.item-index in
    let lt : i < length c.args.content.now = search rules in
    let h = c.loop-item.invariant in
    let k = walked c.args.content.now i c.item-item.result h.0 h.1 h.2 h.3 _ _ c.item-item.is lt h.5
    h.6 h.7 in
    (_, _, _, _, c.step.ensures h.0 h.1 h.2 h.3 h.4, k.0, k.1, k.2)
