use Rattle.std.proofs.Common.{ap, subst, sym}
use Rattle.esc_sanitize.specs.Audits.{HeardAll, way_of}
use Rattle.esc_sanitize.proofs.auditor.Auditor.note.Goals as goal

pub returns-in-Lines-clause-heard : goal.returns-in-Lines-clause-heard
returns-in-Lines-clause-heard g c = λ s t h.
    subst (λ a. HeardAll g.P.Admit g.B.Book a s t) c.in-Lines.is h

pub returns-in-Lines-clause-way : goal.returns-in-Lines-clause-way
returns-in-Lines-clause-way g c = ap (way_of g.P.Admit) (sym c.in-Lines.is)

pub returns-in-Whole-clause-heard : goal.returns-in-Whole-clause-heard
returns-in-Whole-clause-heard g c = λ s t h.
    subst (λ a. HeardAll g.P.Admit g.B.Book a s t) c.in-Whole.is h

pub returns-in-Whole-clause-way : goal.returns-in-Whole-clause-way
returns-in-Whole-clause-way g c = ap (way_of g.P.Admit) (sym c.in-Whole.is)
