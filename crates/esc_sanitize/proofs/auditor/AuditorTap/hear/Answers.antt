use Rattle.std.proofs.Common.{subst}
use Rattle.esc_sanitize.specs.Audits.{Heard}
use Rattle.esc_sanitize.proofs.auditor.AuditorTap.hear.Goals as goal

pub returns-in-Lines-clause-heard : goal.returns-in-Lines-clause-heard
returns-in-Lines-clause-heard g c = λ s t h. c.hear.ensures.heard s t
    (subst (λ a. Heard g.P.Admit g.B.Book a s t) c.in-Lines.is h)

pub returns-in-Whole-clause-heard : goal.returns-in-Whole-clause-heard
returns-in-Whole-clause-heard g c = λ s t h. c.hear-in-Whole.ensures.heard s t
    (subst (λ a. Heard g.P.Admit g.B.Book a s t) c.in-Whole.is h)
