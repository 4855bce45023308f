use Rattle.std.proofs.Common.{sym, ◌∙◌, subst, arith}
use Rattle.esc_frame.specs.declared.classes.Kind.TheVariants as kind
use Rattle.esc_segments.specs.Places.{IsOpened}
use Rattle.esc_segments.proofs.Bodies.{csi_pending, csi_broken, csi_whole}
use Rattle.esc_segments.proofs.opened.csi.Goals as goal

pub returns-then-run-body-clause-found : goal.returns-then-run-body-clause-found
returns-then-run-body-clause-found c =
    subst (λ x. IsOpened kind.Csi c.args.body.now x) (sym c.unfinished.ensures)
    (csi_pending c.args.body.now c.header_run-run.result c.header_run-run.ensures.run (omega arith))

pub returns-then-is_breaker-clause-found : goal.returns-then-is_breaker-clause-found
returns-then-is_breaker-clause-found c =
    subst (λ x. IsOpened kind.Csi c.args.body.now x) (sym c.finished.ensures)
    (csi_broken c.args.body.now c.header_run-run.result c.header_run-run.ensures.run
    (omega (arith, c.header_run-run.ensures.few))
    (sym c.is_breaker.ensures ∙ c.if-is_breaker.true))

pub returns-else-is_breaker-clause-found : goal.returns-else-is_breaker-clause-found
returns-else-is_breaker-clause-found c =
    subst (λ x. IsOpened kind.Csi c.args.body.now x) (sym c.finished-else-is_breaker.ensures)
    (csi_whole c.args.body.now c.header_run-run.result c.header_run-run.ensures.run
    (omega (arith, c.header_run-run.ensures.few))
    (sym c.is_breaker.ensures ∙ c.if-is_breaker.false))
