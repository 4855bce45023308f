use Rattle.std.proofs.Common.{length, ap, subst, sym, ◌∙◌}
use Rattle.esc_screen.specs.Cells.{cleared_cells}
use Rattle.esc_screen.specs.Lists.{in_part}
use Rattle.esc_screen.specs.Used.{IsUnusedFrom}
use Rattle.esc_screen.proofs.Printing.CellsAsAtFirst.{reset_is, unused_blank, written_by}
use Rattle.esc_screen.proofs.row.Row.reset.Goals as goal

pub invariant_of-self : goal.invariant_of-self
invariant_of-self g c =
    let row = c.self.inside in
    let xs = row.cells.items in
    subst (IsUnusedFrom 0)
    (sym (written_by (in_part 0 row.used (cleared_cells 0)) row.cells.len
    c.clear_part.new.cells _ xs (c.clear_part.auto.cells ∙ c.deref_mut.ensures.len)
    c.clear_part.ensures c.deref_mut.ensures.value
    ∙ reset_is row.used xs c.self.invariant))
    (unused_blank 0 (length xs))

pub returns : goal.returns
returns g c =
    let row = c.self.inside in
    let xs = row.cells.items in
    written_by (in_part 0 row.used (cleared_cells 0)) row.cells.len c.clear_part.new.cells _ xs
    (c.clear_part.auto.cells ∙ c.deref_mut.ensures.len) c.clear_part.ensures
    c.deref_mut.ensures.value
    ∙ reset_is row.used xs c.self.invariant
    ∙ ap (cleared_cells 0) c.self.view_is
