use Rattle.escfilter.proofs.Failures.{failure_is}
use Rattle.escfilter.proofs.failing.Failing.is_met.Goals as goal

pub returns-clause-some : goal.returns-clause-some
returns-clause-some c =
    failure_is c.args.self c.args.sums c.has_failure.result c.has_failure.ensures
