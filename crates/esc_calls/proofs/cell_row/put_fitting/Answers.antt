use Rattle.std.proofs.Common.{◌<◌, ◌+◌, ◌≤◌, ◌∙◌, arith, length, slice_set}
use Rattle.std.proofs.lemmas.Grind.{common_steps}
use Rattle.esc_calls.proofs.Rows.{row_put}
use Rattle.esc_calls.specs.CellRows.{cell_row}
use Rattle.esc_terminal.specs.Links.{known_of}
use Rattle.esc_calls.proofs.cell_row.put_fitting.Goals as goal

pub loop-at-preserved : goal.loop-at-preserved
loop-at-preserved c =
    let n = c.loop-at.at in
    let f = cell_row (known_of c.args.styles.now) in
    let cells = c.args.cells.now in
    let out = c.args.out.now in
    let few : n < length cells = grind (arith, common_steps) in
    let room : n < length out = grind (arith, common_steps) in
    let more : n + 1 ≤ c.min-fitting.result = omega arith in (
      more,
      (λ k. slice_set (c.loop-at.invariant.1 k) n (c.of.ensures k))
          ∙ row_put f cells out n _ few room,
    )
