use Rattle.std.proofs.Common.{◌∷◌, sym, ◌∙◌, subst, arith}
use Rattle.esc_segments.specs.Places.{IsFirst, found_further}
use Rattle.esc_segments.proofs.Escapes.{escape_pending, escape_broken, escape_whole}
use Rattle.esc_segments.proofs.first.escape_sequence.Goals as goal

pub returns-then-run-rest-clause-found : goal.returns-then-run-rest-clause-found
returns-then-run-rest-clause-found c =
    subst (λ x. IsFirst (0x1b ∷ c.args.rest.now) (found_further 1 x)) (sym c.unfinished.ensures)
    (escape_pending c.args.rest.now c.escape_run-run.result c.escape_run-run.ensures.run
    (omega arith))

pub returns-then-is_breaker-clause-found : goal.returns-then-is_breaker-clause-found
returns-then-is_breaker-clause-found c =
    subst (λ x. IsFirst (0x1b ∷ c.args.rest.now) (found_further 1 x)) (sym c.finished.ensures)
    (escape_broken c.args.rest.now c.escape_run-run.result c.escape_run-run.ensures.run
    (omega (arith, c.escape_run-run.ensures.few))
    (sym c.is_breaker.ensures ∙ c.if-is_breaker.true))

pub returns-else-is_breaker-clause-found : goal.returns-else-is_breaker-clause-found
returns-else-is_breaker-clause-found c =
    subst (λ x. IsFirst (0x1b ∷ c.args.rest.now) (found_further 1 x))
    (sym c.finished-else-is_breaker.ensures)
    (escape_whole c.args.rest.now c.escape_run-run.result c.escape_run-run.ensures.run c.args.noise
    c.requires.noise c.requires.opens_nothing
    (omega (arith, c.escape_run-run.ensures.few)) (sym c.is_breaker.ensures
    ∙ c.if-is_breaker.false))
