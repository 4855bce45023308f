use Rattle.std.proofs.Common.{sym, ◌∙◌, subst}
use Rattle.esc_segments.specs.Places.{IsRaw}
use Rattle.esc_segments.proofs.Escapes.{raw_terminator, raw_opened, raw_control}
use Rattle.esc_segments.proofs.first.control.Goals as goal

pub returns-then-b-eq156-clause-found : goal.returns-then-b-eq156-clause-found
returns-then-b-eq156-clause-found c =
    subst (λ x. IsRaw c.args.b c.args.body.now x) (sym c.finished.ensures)
    (raw_terminator c.args.b c.args.body.now c.if-b-eq156.true)

pub returns-then-is_letter-clause-found : goal.returns-then-is_letter-clause-found
returns-then-is_letter-clause-found c =
    raw_opened c.args.b c.args.body.now c.opened.result (sym c.is_letter.ensures
    ∙ c.if-is_letter.true) c.opened.ensures.found

pub returns-else-is_letter-clause-found : goal.returns-else-is_letter-clause-found
returns-else-is_letter-clause-found c =
    subst (λ x. IsRaw c.args.b c.args.body.now x) (sym c.finished-else-is_letter.ensures)
    (raw_control c.args.b c.args.body.now c.requires.low c.requires.high c.if-b-eq156.false
    (sym c.is_letter.ensures ∙ c.if-is_letter.false))
