use Rattle.std.proofs.Common.{◌≡◌}
use Rattle.esc_screen.specs.Cells.{cleared_cells}
use Rattle.esc_screen.proofs.Turned.{changed_until}
use Rattle.esc_screen.proofs.rows.clear_part.Given as goal

abbrev pub invariant-loop-i : goal.invariant-loop-i
invariant-loop-i g l = l.rows.items ≡ changed_until (cleared_cells l.fn.look)
    l.fn.from l.i l.fn.rows.items
