use Rattle.esc_terminal.specs.Looks.{place_of}
use Rattle.esc_terminal.specs.Slots.{look_slot}
use Rattle.esc_terminal.proofs.Chained.{IsWalk}
use Rattle.esc_terminal.proofs.Placed.{is_look_at}
use Rattle.esc_terminal.proofs.looks.place_in_slot.Given as goal

-- the place is the one found, or a lesser one in the chain
abbrev pub invariant-loop-end : goal.invariant-loop-end
invariant-loop-end g l =
    IsWalk (is_look_at l.look l.looks) (look_slot l.look) l.places l.end l.found
    (place_of l.look l.looks)

abbrev pub decreases-loop-end : goal.decreases-loop-end
decreases-loop-end g l = l.end
