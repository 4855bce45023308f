use Rattle.std.proofs.Common.{◌≡◌, ◌++◌, ◌∷◌, [], ◌-◌, ◌%◌, ◌==◌, false, length, replicate, take, ap, ◌∙◌, arith}
use Rattle.esc_screen.specs.Cursors.{eighths}
use Rattle.esc_screen.proofs.Sound.TabStops.{stop_more}
use Rattle.esc_screen.proofs.tabs.resized.Goals as goal

pub loop-column-preserved : goal.loop-column-preserved
loop-column-preserved g c =
    let i = c.loop-column.column in
    let t = c.args.tabs.now in (
      omega (arith, c.loop-column-test.true),
      c.in_ok-push.ensures.items
          ∙ ap (λ z. z ++ (i % 8 == 0) ∷ []) c.loop-column.invariant.1
          ∙ stop_more i (length t) (take c.args.columns t) c.loop-column.auto.column,
    )

pub returns-clause-ok : goal.returns-clause-ok
returns-clause-ok g c =
    let n = c.args.columns in
    let t = c.args.tabs.now in
    let same : c.loop-column.column - length t ≡ n - length t =
    omega (arith, c.loop-column.invariant.0, c.loop-column-test.false) in
    c.loop-column.invariant.1
    ∙ ap (λ k. take n t ++ eighths (length t) (replicate k false)) same
