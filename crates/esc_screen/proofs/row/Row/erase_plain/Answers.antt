use Rattle.std.proofs.Common.{ap, subst, sym, ◌∙◌}
use Rattle.esc_screen.specs.Cells.{erased_cells}
use Rattle.esc_screen.specs.Used.{IsUnusedFrom}
use Rattle.esc_screen.proofs.Printing.CellsAsAtFirst.{erased_is, unused_erased, written_by}
use Rattle.esc_screen.proofs.row.Row.erase_plain.Goals as goal

pub invariant_of-self : goal.invariant_of-self
invariant_of-self g c =
    let row = c.self.inside in
    let xs = row.cells.items in
    let end = c.min-end.result in
    subst (IsUnusedFrom row.used)
    (sym (written_by (erased_cells 0 c.args.from end) row.cells.len c.erase.new.cells _ xs
    (c.erase.auto.cells ∙ c.deref_mut.ensures.len) c.erase.ensures c.deref_mut.ensures.value))
    (unused_erased row.used c.args.from end xs c.self.invariant)

pub returns : goal.returns
returns g c =
    let row = c.self.inside in
    let xs = row.cells.items in
    let end = c.min-end.result in
    written_by (erased_cells 0 c.args.from end) row.cells.len c.erase.new.cells _ xs
    (c.erase.auto.cells ∙ c.deref_mut.ensures.len) c.erase.ensures c.deref_mut.ensures.value
    ∙ ap (λ z. erased_cells 0 c.args.from z xs) c.min-end.ensures
    ∙ erased_is row.used c.args.from c.args.to xs c.self.invariant
    ∙ ap (erased_cells 0 c.args.from c.args.to) c.self.view_is
