use Rattle.std.proofs.Common.{◌<◌, ◌≤◌, subst, sym, ◌∙◌, arith}
use Rattle.esc_screen.specs.Cells.{cells_with}
use Rattle.esc_screen.specs.Used.{IsUnusedFrom}
use Rattle.esc_screen.proofs.Printing.CellsAsAtFirst.{unused_more, unused_put, written_by}
use Rattle.esc_screen.proofs.row.Row.put_narrow.Goals as goal

pub invariant_of-self : goal.invariant_of-self
invariant_of-self g c =
    let row = c.self.inside in
    let xs = row.cells.items in
    let n = c.max-self-inside.result in
    let more : row.used ≤ n = omega (arith, c.max-self-inside.ensures) in
    let few : c.args.at < n = omega (arith, c.max-self-inside.ensures) in
    subst (IsUnusedFrom n)
    (sym (written_by (cells_with c.args.at c.args.look c.args.c) row.cells.len
    c.put_narrow.new.cells _ xs (c.put_narrow.auto.cells ∙ c.deref_mut.ensures.len)
    c.put_narrow.ensures c.deref_mut.ensures.value))
    (unused_put n c.args.at c.args.look c.args.c xs few
    (unused_more row.used n xs more c.self.invariant))
