use Rattle.std.proofs.Common.{◌≡◌, ◌++◌, drop, take}
use Rattle.esc_screen.specs.Cursors.{eighths}
use Rattle.esc_screen.proofs.tabs.set_eighths.Given as goal

abbrev pub invariant-loop-i : goal.invariant-loop-i
invariant-loop-i l = l.tabs ≡ take l.i (eighths 0 l.fn.tabs) ++ drop l.i l.fn.tabs
