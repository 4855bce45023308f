use Rattle.std.proofs.Common.{◌∷◌, sym, ◌∙◌, subst, arith}
use Rattle.esc_segments.specs.Places.{IsFirst, found_further}
use Rattle.esc_segments.proofs.Escapes.{escape_opened}
use Rattle.esc_segments.proofs.first.escape.Goals as goal

pub returns-then-is_letter-clause-found : goal.returns-then-is_letter-clause-found
returns-then-is_letter-clause-found c =
    subst (λ x. IsFirst (0x1b ∷ c.args.rest.now) (found_further 1 x)) (sym c.later.ensures)
    (escape_opened c.args.rest.now c.noise_run-noise.result c.opened.result
    c.noise_run-noise.ensures.run (omega arith)
    (sym c.is_letter.ensures ∙ c.if-is_letter.true) c.opened.ensures.found)
