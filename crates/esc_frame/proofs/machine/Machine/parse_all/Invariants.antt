use Rattle.std.proofs.Common.{◌≡◌, ◌-◌, ◌≤◌, length, take}
use Rattle.std.specs.List.{FoldsTo}
use Rattle.esc_frame.specs.Leads.{Unfinished, Holds}
use Rattle.esc_frame.specs.Machine.Calls.{StaysFresh}
use Rattle.esc_frame.specs.Machine.Moves.{after_all, events_all}
use Rattle.esc_frame.proofs.machine.Machine.parse_all.Given as goal

abbrev pub invariant-loop-at : goal.invariant-loop-at
invariant-loop-at g l = (l.at ≤ length l.bytes)
    × (g.V.EventSink.is_ready l.initial.actor → g.V.EventSink.is_ready l.actor)
    × ((u : Unfinished) → Holds g.K.TextRoom.keeps l.initial.self.limit l.initial.self u
    → Holds g.K.TextRoom.keeps l.initial.self.limit l.self (after_all u (take l.at l.bytes))
    × FoldsTo g.V.EventSink.takes l.initial.actor
    (events_all l.initial.self.limit u (take l.at l.bytes)) l.actor × StaysFresh u l.bytes l.at)
    × (l.self.limit ≡ l.initial.self.limit)

abbrev pub decreases-loop-at : goal.decreases-loop-at
decreases-loop-at g l = length l.bytes - l.at
