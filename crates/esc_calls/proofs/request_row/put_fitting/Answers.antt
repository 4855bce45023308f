use Rattle.std.proofs.Common.{◌<◌, ◌+◌, ◌≤◌, ◌∙◌, arith, length, slice_set}
use Rattle.std.proofs.lemmas.Grind.{common_steps}
use Rattle.esc_calls.proofs.Rows.{row_put}
use Rattle.esc_calls.specs.CellRows.{request_row}
use Rattle.esc_calls.proofs.request_row.put_fitting.Goals as goal

pub loop-at-preserved : goal.loop-at-preserved
loop-at-preserved c =
    let n = c.loop-at.at in
    let f = request_row in
    let requests = c.args.requests.now in
    let out = c.args.out.now in
    let few : n < length requests = grind (arith, common_steps) in
    let room : n < length out = grind (arith, common_steps) in
    let more : n + 1 ≤ c.min-fitting.result = omega arith in (
      more,
      (λ k. slice_set (c.loop-at.invariant.1 k) n (c.of.ensures k))
          ∙ row_put f requests out n _ few room,
    )
