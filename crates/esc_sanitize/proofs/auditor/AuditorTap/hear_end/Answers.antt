use Rattle.std.proofs.Common.{subst}
use Rattle.esc_sanitize.specs.Audits.{Heard}
use Rattle.esc_sanitize.proofs.auditor.AuditorTap.hear_end.Goals as goal

pub returns-in-Lines-clause-ended : goal.returns-in-Lines-clause-ended
returns-in-Lines-clause-ended g c = λ s t h. c.hear_end.ensures.ended s t
    (subst (λ a. Heard g.P.Admit g.B.Book a s t) c.in-Lines.is h)

pub returns-in-Whole-clause-ended : goal.returns-in-Whole-clause-ended
returns-in-Whole-clause-ended g c = λ s t h. c.hear_end-in-Whole.ensures.ended s t
    (subst (λ a. Heard g.P.Admit g.B.Book a s t) c.in-Whole.is h)
