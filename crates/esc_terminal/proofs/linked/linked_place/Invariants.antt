use Rattle.esc_terminal.specs.Links.{linked_place}
use Rattle.esc_terminal.specs.Slots.{linked_slot}
use Rattle.esc_terminal.proofs.Chained.{IsWalk}
use Rattle.esc_terminal.proofs.Placed.{is_linked_at}
use Rattle.esc_terminal.proofs.linked.linked_place.Given as goal

-- the place is the one found, or a lesser one in the chain
abbrev pub invariant-loop-end : goal.invariant-loop-end
invariant-loop-end g l =
    IsWalk (is_linked_at l.linked l.all) (linked_slot l.linked) l.places l.end l.found
    (linked_place l.linked l.all)

abbrev pub decreases-loop-end : goal.decreases-loop-end
decreases-loop-end g l = l.end
