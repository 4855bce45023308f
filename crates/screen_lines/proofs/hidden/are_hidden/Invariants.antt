use Rattle.std.proofs.Common.{◌≡◌, drop}
use Rattle.std.specs.List.{list_all}
use Rattle.esc_terminal.specs.Links.{known_of}
use Rattle.screen_lines.specs.Rows.{is_hidden}
use Rattle.screen_lines.proofs.hidden.are_hidden.Given as goal

-- the cells that are left decide
abbrev pub invariant-loop-cell : goal.invariant-loop-cell
invariant-loop-cell g l = list_all (is_hidden (known_of l.styles)) (drop l.cell-index l.cells)
    ≡ list_all (is_hidden (known_of l.styles)) l.cells
