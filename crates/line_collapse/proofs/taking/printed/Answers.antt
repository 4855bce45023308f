use Rattle.std.proofs.Common.{subst}
use Rattle.line_collapse.specs.Taken.{IsCounted}
use Rattle.line_collapse.proofs.taking.printed.Goals as goal

pub returns-in-Some-clause-refused : goal.returns-in-Some-clause-refused
returns-in-Some-clause-refused g c = λ m n s rs h.
    c.printed_in.ensures.refused m n s rs (subst (IsCounted m n s rs) c.in-Some.is h)
