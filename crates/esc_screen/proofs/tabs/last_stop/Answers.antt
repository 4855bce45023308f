use Rattle.std.proofs.Common.{arith}
use Rattle.esc_screen.proofs.tabs.last_stop.Goals as goal

pub loop-at-smaller : goal.loop-at-smaller
loop-at-smaller c = omega arith
