use Rattle.std.proofs.Common.{refl}
use Rattle.esc_sgr.specs.Sgr.{same_look}
use Rattle.esc_style.specs.Looks.{plain_look}
use Rattle.esc_terminal.specs.Looks.{place_of}
use Rattle.esc_terminal.specs.Slots.{look_slot}
use Rattle.esc_terminal.proofs.Chained.{begins, end_less, goes}
use Rattle.esc_terminal.proofs.Once.{look_is}
use Rattle.esc_terminal.proofs.Placed.{look_first}
use Rattle.esc_terminal.proofs.looks.place_in_slot.Goals as goal

pub loop-end-init : goal.loop-end-init
loop-end-init g c =
    let look = c.args.look.now in
    let looks = c.args.looks.now in
    begins look_slot same_look looks c.args.places.now look plain_look (λ k h. look_is k look h)
    c.requires (place_of look looks) c.look_slot.result c.end-end.result _ (look_first look looks)
    c.look_slot.ensures.is c.end-end.ensures refl

pub loop-end-smaller : goal.loop-end-smaller
loop-end-smaller g c =
    end_less _ c.args.places.now c.loop-end.end c.end_before-end.result c.loop-end-test.true
    c.end_before-end.ensures

pub loop-end-preserved : goal.loop-end-preserved
loop-end-preserved g c =
    let look = c.args.look.now in
    let looks = c.args.looks.now in
    goes look_slot same_look looks c.args.places.now look plain_look (λ k h. look_is k look h)
    c.requires (place_of look looks) c.loop-end.end c.loop-end.found c.end_before-end.result
    c.chosen-found.result c.loop-end.invariant c.loop-end-test.true c.chosen-found.ensures
    c.end_before-end.ensures
