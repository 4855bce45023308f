use Rattle.std.proofs.Common.{◌≡◌, ◌≤◌, ◌-◌, [], length, take, Some}
use Rattle.esc_frame.specs.Leads.{Unfinished}
use Rattle.esc_frame.specs.Machine.Moves.{after_all, events_all}
use Rattle.heapless_parser.specs.States.{KeptIn}
use Rattle.heapless_parser.specs.Emitted.{queued_of}
use Rattle.heapless_parser.proofs.next.advance_to_event.Given as goal

abbrev pub invariant-loop-at : goal.invariant-loop-at
invariant-loop-at l = record {
  within : l.at ≤ length l.bytes;
  none : l.event.kind ≡ 0;
  within_event : (l.event.count ≤ 256) × (l.event.kept ≤ 2)
      × (l.event.length ≤ length l.initial.out);
  queued : queued_of l.parser.queued_kind l.parser.queued_value ≡ [];
  kept : (u : Unfinished) → KeptIn l.initial.parser l.initial.memory u
      → KeptIn l.parser l.memory (after_all u (take l.at l.bytes))
      × (events_all (Some (length l.initial.memory)) u (take l.at l.bytes) ≡ []);
  failed : l.parser.has_failed ≡ l.initial.parser.has_failed;
}

abbrev pub decreases-loop-at : goal.decreases-loop-at
decreases-loop-at l = length l.bytes - l.at
