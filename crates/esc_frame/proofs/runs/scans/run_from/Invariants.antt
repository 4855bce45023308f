use Rattle.std.proofs.Common.{◌-◌, ◌+◌, ◌≤◌, ◌≡◌, length, drop}
use Rattle.std.specs.List.{prefix_len}
use Rattle.esc_frame.specs.Sequences.{is_from}
use Rattle.esc_frame.proofs.runs.scans.run_from.Given as goal

abbrev pub invariant-loop-end : goal.invariant-loop-end
invariant-loop-end l = (l.end ≤ length l.bytes)
    × (prefix_len (is_from 0x20 l.last) l.bytes ≡ l.end
    + prefix_len (is_from 0x20 l.last) (drop l.end l.bytes))

abbrev pub decreases-loop-end : goal.decreases-loop-end
decreases-loop-end l = length l.bytes - l.end

abbrev pub invariant-by_block : goal.invariant-by_block
invariant-by_block l =
    (l.end ≤ length l.bytes)
    × (prefix_len (is_from 0x20 l.last) l.bytes ≡ l.end
    + prefix_len (is_from 0x20 l.last) (drop l.end l.bytes))

abbrev pub decreases-by_block : goal.decreases-by_block
decreases-by_block l = length l.bytes - l.end
