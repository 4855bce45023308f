use Rattle.std.proofs.Common.{◌≡◌, ◌+◌, drop}
use Rattle.esc_screen.specs.Cursors.{before_stop}
use Rattle.esc_screen.proofs.tabs.first_stop.Given as goal

-- the columns that are left decide
abbrev pub invariant-loop-at : goal.invariant-loop-at
invariant-loop-at l = l.at + before_stop (drop l.at l.tabs)
    ≡ l.fn.from + before_stop (drop l.fn.from l.tabs)
