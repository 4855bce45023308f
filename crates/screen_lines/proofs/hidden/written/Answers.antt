use Rattle.std.proofs.Common.{◌-◌, arith, sym, ◌∙◌}
use Rattle.screen_lines.proofs.Growing.{unwritten_less, used_written}
use Rattle.screen_lines.proofs.hidden.written.Goals as goal

pub loop-end-init : goal.loop-end-init
loop-end-init c = (
  omega (arith, c.min-end.ensures),
  λ k w. used_written k w c.args.used _ c.args.cells.now c.requires c.min-end.ensures,
)

pub loop-end-preserved : goal.loop-end-preserved
loop-end-preserved c = (
  omega arith,
  λ k w.
      unwritten_less k w c.args.cells.now c.loop-end.end (c.loop-end.end - 1) _ (omega arith)
      (omega arith) (sym c.is_unwritten.ensures ∙ c.if-is_unwritten.true)
      ∙ c.loop-end.invariant.1 k w,
)
