use Rattle.std.proofs.Common.{◌≡◌, drop}
use Rattle.esc_screen.specs.Scrolled.{main_rows}
use Rattle.esc_screen.specs.Screens.{grid_of}
use Rattle.esc_terminal.specs.Links.{known_of}
use Rattle.line_collapse.specs.Streams.{count_seen, cursor_rows}
use Rattle.line_collapse.proofs.seen.count_seen.Given as goal

-- the cells that are left decide
abbrev pub invariant-loop-at : goal.invariant-loop-at
invariant-loop-at g l =
    count_seen (known_of l.styles) l.count l.at (drop l.at (main_rows (grid_of l.screen)))
    ≡ count_seen (known_of l.styles) (cursor_rows (grid_of l.screen)) 0
    (main_rows (grid_of l.screen))
