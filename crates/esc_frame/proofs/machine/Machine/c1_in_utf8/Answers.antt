use Rattle.std.proofs.Common.{◌≡◌, ◌∙◌, ap, refl}
use Rattle.esc_frame.specs.declared.classes.Breaker.TheVariants.{C1Introducer}
use Rattle.esc_frame.specs.declared.classes.Class.TheVariants.{Breaks}
use Rattle.esc_frame.specs.Segments.Opener.{Pair}
use Rattle.esc_frame.proofs.machine.Machine.c1_in_utf8.Goals as goal

pub returns-in-Breaks-C1Introducer-clause-moved : goal.returns-in-Breaks-C1Introducer-clause-moved
returns-in-Breaks-C1Introducer-clause-moved g c = λ limit own.
    let arm = c.in-Breaks-C1Introducer in
    let opens : arm.field-0 ≡ C1Introducer arm.kind = rw arm.is at arm.field-0-is in
    let e : c.args.class ≡ Breaks (C1Introducer arm.kind) = arm.is ∙ ap Breaks opens in
    rw e (c.open.ensures.holds limit Pair, refl)
