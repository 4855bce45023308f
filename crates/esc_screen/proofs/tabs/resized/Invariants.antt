use Rattle.std.proofs.Common.{◌≡◌, ◌++◌, ◌-◌, ◌≤◌, false, length, max, replicate, take}
use Rattle.esc_screen.specs.Cursors.{eighths}
use Rattle.esc_screen.proofs.tabs.resized.Given as goal

abbrev pub invariant-loop-column : goal.invariant-loop-column
invariant-loop-column g l = (l.column ≤ max (length l.tabs) l.columns)
    × (l.all.items ≡ take l.columns l.tabs
    ++ eighths (length l.tabs) (replicate (l.column - length l.tabs) false))
