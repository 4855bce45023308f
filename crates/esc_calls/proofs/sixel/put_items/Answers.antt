use Rattle.std.proofs.Common.{◌<◌, ◌+◌, ◌≤◌, ◌++◌, ◌∙◌, ap, arith, drop, length, map, slice_set, take}
use Rattle.std.proofs.lemmas.Grind.{common_steps}
use Rattle.esc_calls.proofs.Rows.{row_put}
use Rattle.flat_values.specs.Sixels.{sixel_row}
use Rattle.esc_calls.proofs.sixel.put_items.Goals as goal

pub loop-at-preserved : goal.loop-at-preserved
loop-at-preserved c =
    let n = c.loop-at.at in
    let items = c.args.items.now in
    let rows = c.args.rows.now in
    let few : n < length items = grind (arith, common_steps) in
    let room : n < length rows = grind (arith, common_steps) in
    let more : n + 1 ≤ c.min-fitting.result = omega arith in (
      more,
      (λ k. slice_set (c.loop-at.invariant.1 k) n (c.of.ensures k))
          ∙ ap (λ d. slice_set (take n (map sixel_row items) ++ drop n rows) n (sixel_row d))
          c.index-items-at.is ∙ row_put sixel_row items rows n c.index-items-at.result few room,
    )
