use Rattle.std.proofs.Common.{take}
use Rattle.line_collapse.specs.Amounts.{Adds}
use Rattle.line_collapse.specs.RowText.{rows_bytes, rows_chars}
use Rattle.esc_screen.specs.Scrolled.{main_rows}
use Rattle.esc_screen.specs.Screens.{grid_of}
use Rattle.line_collapse.proofs.lost.with_left.Given as goal

-- the rows so far were counted
abbrev pub invariant-loop-at : goal.invariant-loop-at
invariant-loop-at g l = Adds (rows_chars (take l.at (main_rows (grid_of l.screen))))
    (rows_bytes (take l.at (main_rows (grid_of l.screen)))) l.fn.amount l.amount
