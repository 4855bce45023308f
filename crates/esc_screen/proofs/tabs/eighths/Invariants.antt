use Rattle.std.proofs.Common.{◌≡◌, false, replicate}
use Rattle.esc_screen.proofs.tabs.eighths.Given as goal

abbrev pub invariant-loop : goal.invariant-loop
invariant-loop g l = l.tabs.items ≡ replicate l.counter false
