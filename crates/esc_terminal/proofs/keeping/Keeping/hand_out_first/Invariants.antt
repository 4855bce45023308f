use Rattle.std.proofs.Common.{◌≡◌, take}
use Rattle.std.specs.List.{FoldsTo}
use Rattle.esc_screen.specs.Screens.{grid_of}
use Rattle.esc_screen.specs.Scrolled.{main_rows}
use Rattle.esc_terminal.specs.Fed.{known_in}
use Rattle.esc_terminal.specs.Scrolled.{with_known}
use Rattle.esc_terminal.proofs.keeping.Keeping.hand_out_first.Given as goal

-- the rows so far were handed out
abbrev pub invariant-loop-at : goal.invariant-loop-at
invariant-loop-at g l = (l.self.state ≡ l.fn.self.state)
    × FoldsTo g.R.Rows.takes l.fn.self.rows
    (with_known (known_in l.fn.self.state)
    (take l.at (main_rows (grid_of l.fn.self.state.screen)))) l.self.rows
