use Rattle.std.proofs.Common.{◌≡◌, ◌++◌, ◌≤◌, ◌-◌, drop, map, take}
use Rattle.esc_terminal.specs.Links.{known_of}
use Rattle.esc_calls.specs.CellRows.{cell_row}
use Rattle.esc_calls.proofs.cell_row.put_fitting.Given as goal

-- the rows so far, and after them the old rows
abbrev pub invariant-loop-at : goal.invariant-loop-at
invariant-loop-at l = (l.at ≤ l.fitting)
    × (l.out ≡ take l.at (map (cell_row (known_of l.styles)) l.cells) ++ drop l.at l.initial.out)

abbrev pub decreases-loop-at : goal.decreases-loop-at
decreases-loop-at l = l.fitting - l.at
