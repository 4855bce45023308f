use Rattle.std.proofs.Common.{◌≡◌, ◌≤◌, length, take}
use Rattle.esc_terminal.specs.Links.{Known}
use Rattle.screen_lines.specs.Rows.{cells_parts}
use Rattle.screen_lines.specs.declared.going.Going.{Going}
use Rattle.screen_lines.proofs.hidden.written.Given as goal

-- those so far add what all do
abbrev pub invariant-loop-end : goal.invariant-loop-end
invariant-loop-end l = (l.end ≤ length l.cells)
    × ((k : Known) (w : Going) → cells_parts k w (take l.end l.cells) ≡ cells_parts k w l.cells)

abbrev pub decreases-loop-end : goal.decreases-loop-end
decreases-loop-end l = l.end
