use Rattle.std.proofs.Common.{◌+◌, ◌≤◌, length, subst, sym, ◌∙◌, arith}
use Rattle.esc_screen.specs.Cells.{put_all}
use Rattle.esc_screen.specs.Used.{IsUnusedFrom}
use Rattle.esc_screen.proofs.Printing.CellsAsAtFirst.{unused_more, unused_put_all, written_by}
use Rattle.esc_screen.proofs.row.Row.put_text.Goals as goal

pub invariant_of-self : goal.invariant_of-self
invariant_of-self g c =
    let row = c.self.inside in
    let xs = row.cells.items in
    let n = c.max-self-inside.result in
    let more : row.used ≤ n = omega (arith, c.max-self-inside.ensures) in
    let few : c.args.at + length c.args.text.now ≤ n = omega (arith, c.max-self-inside.ensures) in
    subst (IsUnusedFrom n)
    (sym (written_by (put_all c.args.at c.args.look c.args.text.now) row.cells.len
    c.put_text.new.cells _ xs (c.put_text.auto.cells ∙ c.deref_mut.ensures.len) c.put_text.ensures
    c.deref_mut.ensures.value))
    (unused_put_all n c.args.at c.args.look c.args.text.now xs few
    (unused_more row.used n xs more c.self.invariant))
