use Rattle.std.proofs.Common.{◌≡◌}
use Rattle.esc_screen.specs.Cursors.{stop_before}
use Rattle.esc_screen.specs.Lists.{times}
use Rattle.esc_screen.proofs.screen.Screen.tab_before.Given as goal

abbrev pub invariant-loop : goal.invariant-loop
invariant-loop g l = l.column ≡ times l.counter (stop_before l.self.tabs.items) l.self.cursor.column
