use Rattle.control_functions.proofs.Packed.{few_more, more_packed}
use Rattle.control_functions.proofs.marks.pushed.Goals as goal

pub returns-clause-same : goal.returns-clause-same
returns-clause-same c = λ bs. more_packed c.args.packed c.args.mark bs

pub returns-clause-few : goal.returns-clause-few
returns-clause-few c = few_more c.args.packed c.args.mark c.requires c.ranges.mark.fits
