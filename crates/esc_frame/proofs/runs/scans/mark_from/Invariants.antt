use Rattle.std.proofs.Common.{◌-◌, ◌+◌, ◌≤◌, ◌≡◌, length, drop}
use Rattle.std.specs.List.{prefix_len}
use Rattle.esc_frame.specs.Scans.{is_unmarked}
use Rattle.esc_frame.proofs.runs.scans.mark_from.Given as goal

abbrev pub invariant-loop-at : goal.invariant-loop-at
invariant-loop-at l =
    (l.at ≤ length l.text)
    × (l.fn.from + prefix_len is_unmarked (drop l.fn.from l.text) ≡ l.at
    + prefix_len is_unmarked (drop l.at l.text))

abbrev pub decreases-loop-at : goal.decreases-loop-at
decreases-loop-at l = length l.text - l.at

abbrev pub invariant-by_block : goal.invariant-by_block
invariant-by_block l =
    (l.at ≤ length l.text)
    × (l.fn.from + prefix_len is_unmarked (drop l.fn.from l.text) ≡ l.at
    + prefix_len is_unmarked (drop l.at l.text))

abbrev pub decreases-by_block : goal.decreases-by_block
decreases-by_block l = length l.text - l.at
