use Rattle.std.proofs.Common.{◌≡◌}
use Rattle.esc_screen.specs.Cells.{filled_part}
use Rattle.esc_screen.proofs.Turned.{changed_until}
use Rattle.esc_screen.proofs.rows.fill_area.Given as goal

abbrev pub invariant-loop-i : goal.invariant-loop-i
invariant-loop-i g l = l.rows.items ≡ changed_until (filled_part l.fn.cell l.fn.left l.fn.right)
    l.fn.from l.i l.fn.rows.items
