use Rattle.fallible_alloc.specs.Refusals.Trusted.{library_refused}
use Rattle.fallible_alloc.proofs.answered.answered.Goals as goal

pub returns-in-Err-clause-refused : goal.returns-in-Err-clause-refused
returns-in-Err-clause-refused g c = library_refused _
