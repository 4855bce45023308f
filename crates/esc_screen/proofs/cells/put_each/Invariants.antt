use Rattle.std.proofs.Common.{◌≡◌, ◌+◌, drop}
use Rattle.esc_screen.specs.Cells.{put_all}
use Rattle.esc_screen.proofs.cells.put_each.Given as goal

-- the characters that are left decide
abbrev pub invariant-loop-b : goal.invariant-loop-b
invariant-loop-b l = (l.column ≡ l.fn.at + l.b-index)
    × (put_all l.column l.fn.look (drop l.b-index l.text) l.cells
    ≡ put_all l.fn.at l.fn.look l.fn.text l.fn.cells)
