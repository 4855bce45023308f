use Rattle.std.proofs.Common.{◌≡◌, take}
use Rattle.esc_screen.specs.Scrolled.{main_rows}
use Rattle.esc_screen.specs.Screens.{grid_of}
use Rattle.esc_terminal.specs.Links.{known_of}
use Rattle.esc_terminal.specs.Scrolled.{with_known}
use Rattle.screen_lines.specs.Rows.{out_by_rows}
use Rattle.screen_lines.specs.Written.{out_of}
use Rattle.line_collapse.proofs.collapse.with_screen.Given as goal

-- the rows so far were written
abbrev pub invariant-loop-at : goal.invariant-loop-at
invariant-loop-at g l = out_of l.lines ≡ out_by_rows (out_of l.fn.lines)
    (with_known (known_of l.styles) (take l.at (main_rows (grid_of l.screen))))
