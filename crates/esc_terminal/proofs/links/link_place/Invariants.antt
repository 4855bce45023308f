use Rattle.std.proofs.Common.{map}
use Rattle.esc_terminal.specs.Links.{link_place, target}
use Rattle.esc_terminal.specs.Slots.{target_slot}
use Rattle.esc_terminal.proofs.Chained.{IsWalk}
use Rattle.esc_terminal.proofs.Placed.{is_target_at}
use Rattle.esc_terminal.proofs.links.link_place.Given as goal

-- the place is the one found, or a lesser one in the chain
abbrev pub invariant-loop-end : goal.invariant-loop-end
invariant-loop-end g l =
    let t = target l.link in
    let ts = map target l.links in
    IsWalk (is_target_at t ts) (target_slot t) l.places l.end l.found (link_place t ts)

abbrev pub decreases-loop-end : goal.decreases-loop-end
decreases-loop-end g l = l.end
