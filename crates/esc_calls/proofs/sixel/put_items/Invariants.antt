use Rattle.std.proofs.Common.{◌≡◌, ◌++◌, ◌≤◌, ◌-◌, drop, map, take}
use Rattle.flat_values.specs.Sixels.{sixel_row}
use Rattle.esc_calls.proofs.sixel.put_items.Given as goal

-- the rows so far, and after them the old rows
abbrev pub invariant-loop-at : goal.invariant-loop-at
invariant-loop-at l = (l.at ≤ l.fitting)
    × (l.rows ≡ take l.at (map sixel_row l.items) ++ drop l.at l.initial.rows)

abbrev pub decreases-loop-at : goal.decreases-loop-at
decreases-loop-at l = l.fitting - l.at
