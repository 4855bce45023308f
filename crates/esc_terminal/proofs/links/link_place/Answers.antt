use Rattle.std.proofs.Common.{[], map, sym, ◌∙◌}
use Rattle.esc_terminal.specs.Links.{link_place, same_target, target}
use Rattle.esc_terminal.specs.Slots.{target_slot}
use Rattle.esc_terminal.proofs.Chained.{begins, end_less, goes}
use Rattle.esc_terminal.proofs.LinksKept.{length_targets}
use Rattle.esc_terminal.proofs.Placed.{link_first, link_slots, target_is}
use Rattle.esc_terminal.proofs.links.link_place.Goals as goal

pub loop-end-init : goal.loop-end-init
loop-end-init g c =
    let t = target c.args.link.now in
    let links = c.args.links.now in
    let ts = map target links in
    begins target_slot same_target ts c.args.places.now t ([], []) (target_is t)
    (c.requires ∙ link_slots links) (link_place t ts) c.link_slot.result c.end-end.result _
    (link_first t ts) c.link_slot.ensures.is c.end-end.ensures (sym (length_targets links))

pub loop-end-smaller : goal.loop-end-smaller
loop-end-smaller g c =
    end_less _ c.args.places.now c.loop-end.end c.end_before-end.result c.loop-end-test.true
    c.end_before-end.ensures

pub loop-end-preserved : goal.loop-end-preserved
loop-end-preserved g c =
    let t = target c.args.link.now in
    let links = c.args.links.now in
    let ts = map target links in
    goes target_slot same_target ts c.args.places.now t ([], []) (target_is t)
    (c.requires ∙ link_slots links) (link_place t ts) c.loop-end.end c.loop-end.found
    c.end_before-end.result c.chosen-found.result c.loop-end.invariant c.loop-end-test.true
    c.chosen-found.ensures c.end_before-end.ensures
