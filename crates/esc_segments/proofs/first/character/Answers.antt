use Rattle.std.proofs.Common.{sym, subst}
use Rattle.esc_segments.specs.Places.{IsFirst}
use Rattle.esc_segments.proofs.Escapes.{raw_range, wide, broken, pending, pair}
use Rattle.esc_segments.proofs.first.character.Goals as goal

pub control-requires-clause-low : goal.control-requires-clause-low
control-requires-clause-low c = (raw_range c.in-Control.b c.in-Control.ensures.0).0

pub control-requires-clause-high : goal.control-requires-clause-high
control-requires-clause-high c = (raw_range c.in-Control.b c.in-Control.ensures.0).1

pub returns-in-Whole-clause-found : goal.returns-in-Whole-clause-found
returns-in-Whole-clause-found c =
    subst (λ x. IsFirst c.args.bytes.now x) (sym c.finished.ensures)
    (wide c.args.bytes.now c.in-Whole.count c.in-Whole.ensures)

pub returns-in-Broken-clause-found : goal.returns-in-Broken-clause-found
returns-in-Broken-clause-found c =
    subst (λ x. IsFirst c.args.bytes.now x) (sym c.finished-in-Broken.ensures)
    (broken c.args.bytes.now c.in-Broken.count c.in-Broken.ensures)

pub returns-in-Pending-clause-found : goal.returns-in-Pending-clause-found
returns-in-Pending-clause-found c =
    subst (λ x. IsFirst c.args.bytes.now x) (sym c.unfinished.ensures)
    (pending c.args.bytes.now c.in-Pending.ensures)

pub returns-in-Control-clause-found : goal.returns-in-Control-clause-found
returns-in-Control-clause-found c =
    subst (λ x. IsFirst c.args.bytes.now x) (sym c.later.ensures)
    (pair c.args.bytes.now c.in-Control.b c.control.result c.in-Control.ensures
    c.control.ensures.found)
