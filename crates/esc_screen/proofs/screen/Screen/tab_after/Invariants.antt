use Rattle.std.proofs.Common.{◌≡◌}
use Rattle.esc_screen.specs.Cursors.{stop_after}
use Rattle.esc_screen.specs.Lists.{times}
use Rattle.esc_screen.proofs.screen.Screen.tab_after.Given as goal

abbrev pub invariant-loop : goal.invariant-loop
invariant-loop g l = l.column
    ≡ times l.counter (stop_after l.self.max_columns l.self.tabs.items) l.self.cursor.column
