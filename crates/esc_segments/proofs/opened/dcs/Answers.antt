use Rattle.std.proofs.Common.{sym, ◌∙◌, subst, arith}
use Rattle.esc_frame.specs.declared.classes.Kind.TheVariants as kind
use Rattle.esc_segments.specs.Places.{IsOpened}
use Rattle.esc_segments.proofs.Bodies.{dcs_pending, dcs_broken, dcs_whole}
use Rattle.esc_segments.proofs.opened.dcs.Goals as goal

pub returns-then-run-body-clause-found : goal.returns-then-run-body-clause-found
returns-then-run-body-clause-found c =
    subst (λ x. IsOpened kind.Dcs c.args.body.now x) (sym c.unfinished.ensures)
    (dcs_pending c.args.body.now c.header_run-run.result c.header_run-run.ensures.run (omega arith))

pub returns-then-is_breaker-clause-found : goal.returns-then-is_breaker-clause-found
returns-then-is_breaker-clause-found c =
    subst (λ x. IsOpened kind.Dcs c.args.body.now x) (sym c.finished.ensures)
    (dcs_broken c.args.body.now c.header_run-run.result c.header_run-run.ensures.run
    (omega (arith, c.header_run-run.ensures.few))
    (sym c.is_breaker.ensures ∙ c.if-is_breaker.true))

pub returns-else-is_breaker-clause-found : goal.returns-else-is_breaker-clause-found
returns-else-is_breaker-clause-found c =
    dcs_whole c.args.body.now c.header_run-run.result c.data_run.result c.header_run-run.ensures.run
    (omega (arith, c.header_run-run.ensures.few))
    (sym c.is_breaker.ensures ∙ c.if-is_breaker.false) c.data_run.ensures.run
