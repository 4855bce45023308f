use Rattle.std.proofs.Common.{◌≡◌, ◌++◌, ◌≤◌, ◌-◌, drop, map, take}
use Rattle.esc_calls.specs.CellRows.{request_row}
use Rattle.esc_calls.proofs.request_row.put_fitting.Given as goal

-- the rows so far, and after them the old rows
abbrev pub invariant-loop-at : goal.invariant-loop-at
invariant-loop-at l = (l.at ≤ l.fitting)
    × (l.out ≡ take l.at (map request_row l.requests) ++ drop l.at l.initial.out)

abbrev pub decreases-loop-at : goal.decreases-loop-at
decreases-loop-at l = l.fitting - l.at
