use Rattle.std.proofs.Common.{◌≡◌, ◌++◌, take}
use Rattle.esc_screen.specs.Cells.{blank_row, cut_row}
use Rattle.esc_screen.proofs.cells.resized.Given as goal

abbrev pub invariant-loop : goal.invariant-loop
invariant-loop g l = l.all.items
    ≡ take l.columns (cut_row l.columns l.cells) ++ blank_row 0 l.counter
