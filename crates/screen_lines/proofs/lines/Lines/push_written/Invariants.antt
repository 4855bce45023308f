use Rattle.std.proofs.Common.{◌≡◌, ◌≤◌, ◌-◌, drop, length}
use Rattle.esc_terminal.specs.Links.{known_of}
use Rattle.screen_lines.specs.Parts.{out_from}
use Rattle.screen_lines.specs.Rows.{cells_parts, first_going}
use Rattle.screen_lines.specs.Written.{out_of}
use Rattle.screen_lines.proofs.lines.Lines.push_written.Given as goal

-- the cells that are left are added
abbrev pub invariant-loop-at : goal.invariant-loop-at
invariant-loop-at g l = (l.going.blanks ≤ l.at)
    × ((l.at ≤ length l.cells)
    × (out_from (out_of l.self) (cells_parts (known_of l.styles) l.going (drop l.at l.cells))
    ≡ out_from (out_of l.fn.self) (cells_parts (known_of l.styles) first_going l.cells)))

abbrev pub decreases-loop-at : goal.decreases-loop-at
decreases-loop-at g l = length l.cells - l.at
