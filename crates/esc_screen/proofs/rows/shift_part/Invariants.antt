use Rattle.std.proofs.Common.{◌≡◌}
use Rattle.esc_screen.specs.Cells.{shifted_cells}
use Rattle.esc_screen.proofs.Turned.{changed_until}
use Rattle.esc_screen.proofs.rows.shift_part.Given as goal

abbrev pub invariant-loop-i : goal.invariant-loop-i
invariant-loop-i g l =
    let columns = l.fn.columns in
    l.rows.items ≡ changed_until
    (shifted_cells columns.more columns.look columns.count columns.column columns.end)
    l.fn.from l.i l.fn.rows.items
