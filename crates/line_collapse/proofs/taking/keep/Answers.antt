use Rattle.std.proofs.Common.{ap, is_some, subst, sym}
use Rattle.line_collapse.specs.Taken.{IsCounted}
use Rattle.line_collapse.proofs.taking.keep.Goals as goal

pub returns-in-Some : goal.returns-in-Some
returns-in-Some g c = (
  sym (ap is_some c.in-Some.is),
  λ m n s rs h. c.keep.ensures m n s rs (subst (IsCounted m n s rs) c.in-Some.is h),
)
