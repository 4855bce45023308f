use Rattle.std.proofs.Common.{◌≡◌}
use Rattle.esc_screen.specs.Cursors.{stop_before}
use Rattle.esc_screen.proofs.tabs.last_stop.Given as goal

-- the columns that are left decide
abbrev pub invariant-loop-at : goal.invariant-loop-at
invariant-loop-at l = stop_before l.tabs l.at ≡ stop_before l.tabs l.fn.before

abbrev pub decreases-loop-at : goal.decreases-loop-at
decreases-loop-at l = l.at
