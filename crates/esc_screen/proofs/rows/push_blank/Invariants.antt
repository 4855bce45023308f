use Rattle.std.proofs.Common.{◌≡◌, ◌++◌, replicate}
use Rattle.esc_screen.specs.Cells.{blank_row}
use Rattle.esc_screen.proofs.rows.push_blank.Given as goal

abbrev pub invariant-loop : goal.invariant-loop
invariant-loop g l =
    l.rows.items ≡ l.initial.rows.items ++ replicate l.counter (blank_row 0 l.columns)
