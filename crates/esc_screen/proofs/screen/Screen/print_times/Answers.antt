use Rattle.std.proofs.Common.{◌≡◌, ◌+◌, suc, ap, ◌∙◌, arith}
use Rattle.esc_screen.specs.Lists.{times}
use Rattle.esc_screen.specs.Printing.{narrow_printed}
use Rattle.esc_screen.specs.Screens.{grid_of, size_of}
use Rattle.esc_screen.proofs.screen.Screen.print_times.Goals as goal

pub loop-preserved : goal.loop-preserved
loop-preserved g c =
    let s = size_of c.args.self.now in
    let f = narrow_printed s c.args.c in
    let p = c.loop.self in
    let i = c.loop.counter in
    let k = c.print.ensures in
    let one : suc i ≡ i + 1 = omega arith in (
      k.size ∙ c.loop.invariant.0,
      k.grid ∙ ap (λ z. narrow_printed z c.args.c (grid_of p)) c.loop.invariant.0
          ∙ ap f c.loop.invariant.1 ∙ ap (λ n. times n f (grid_of c.args.self.now)) one,
    )
