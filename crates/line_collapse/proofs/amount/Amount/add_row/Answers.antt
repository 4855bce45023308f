use Rattle.std.proofs.Common.{arith, refl, subst}
use Rattle.std.proofs.lemmas.List.{take_all}
use Rattle.esc_screen.specs.Cells.{blank}
use Rattle.line_collapse.specs.RowText.{cell_bytes, cell_chars, row_bytes, row_chars}
use Rattle.line_collapse.specs.Amounts.{Adds}
use Rattle.line_collapse.proofs.Adding.{next_added}
use Rattle.line_collapse.proofs.amount.Amount.add_row.Goals as goal

pub loop-cell-preserved : goal.loop-cell-preserved
loop-cell-preserved c =
    next_added cell_chars cell_bytes c.args.cells.now c.loop-cell.cell-index (blank 0) _
    c.args.self.now _ _ (omega arith) refl c.loop-cell.invariant c.add_cell.ensures

pub returns : goal.returns
returns c =
    let all = take_all c.loop-cell.cell-index c.args.cells.now (omega arith) in
    subst (λ x. Adds (row_chars x) (row_bytes x) c.args.self.now c.loop-cell.self) all
    c.loop-cell.invariant
