use Rattle.std.proofs.Common.{◌≡◌, ◌<◌, ◌++◌, ◌∷◌, [], get_or, length, ap, ◌∙◌, arith}
use Rattle.esc_screen.proofs.Turned.{taken_more}
use Rattle.esc_screen.specs.Resized.{resized_row}
use Rattle.esc_screen.proofs.rows.resized_each.Goals as goal

pub loop-i-preserved : goal.loop-i-preserved
loop-i-preserved g c =
    let xs = c.args.rows.now.items in
    let i = c.loop-i.i in
    let f = resized_row c.args.columns in
    let less : i < length xs = omega (arith, c.loop-i-test.true, c.requires) in
    c.in_ok-push_resized_at.ensures.ok
    ∙ ap (λ ys. ys ++ f (get_or xs i []) ∷ []) c.loop-i.invariant
    ∙ taken_more f c.args.from i [] xs c.loop-i.near-i less
