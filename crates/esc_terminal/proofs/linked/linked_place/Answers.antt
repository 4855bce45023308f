use Rattle.std.proofs.Common.{refl}
use Rattle.esc_terminal.specs.Links.{linked_of, linked_place, same_linked}
use Rattle.esc_terminal.specs.Slots.{linked_slot}
use Rattle.esc_terminal.proofs.Chained.{begins, end_less, goes}
use Rattle.esc_terminal.proofs.Placed.{linked_first, linked_is}
use Rattle.esc_terminal.proofs.linked.linked_place.Goals as goal

pub loop-end-init : goal.loop-end-init
loop-end-init g c =
    let one = c.args.linked in
    let all = c.args.all.now in
    begins linked_slot same_linked all c.args.places.now one (linked_of 0 0) (linked_is one)
    c.requires (linked_place one all) c.linked_slot.result c.end-end.result _
    (linked_first one all) c.linked_slot.ensures.is c.end-end.ensures refl

pub loop-end-smaller : goal.loop-end-smaller
loop-end-smaller g c =
    end_less _ c.args.places.now c.loop-end.end c.end_before-end.result c.loop-end-test.true
    c.end_before-end.ensures

pub loop-end-preserved : goal.loop-end-preserved
loop-end-preserved g c =
    let one = c.args.linked in
    let all = c.args.all.now in
    goes linked_slot same_linked all c.args.places.now one (linked_of 0 0) (linked_is one)
    c.requires (linked_place one all) c.loop-end.end c.loop-end.found c.end_before-end.result
    c.chosen-found.result c.loop-end.invariant c.loop-end-test.true c.chosen-found.ensures
    c.end_before-end.ensures
