use Rattle.std.proofs.Common.{◌≡◌, ◌-◌, length, None}
use Rattle.esc_frame.specs.Leads.{Holds}
use Rattle.esc_frame.specs.Leads.Unfinished.{Ground}
use Rattle.esc_frame.specs.Machine.Calls.{Ran}
use Rattle.esc_frame.proofs.machine.Machine.parse_in_ground.Given as goal

abbrev pub invariant-loop-at : goal.invariant-loop-at
invariant-loop-at g l = Ran g.V.EventSink.takes g.V.EventSink.is_ready l.rest l.at l.initial.actor
    l.actor
    × (Holds g.K.TextRoom.keeps None l.self Ground × (l.self.limit ≡ l.initial.self.limit))

abbrev pub decreases-loop-at : goal.decreases-loop-at
decreases-loop-at g l = length l.rest - l.at
