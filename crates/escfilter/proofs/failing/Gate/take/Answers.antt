use Rattle.escfilter.proofs.Failures.{told_more}
use Rattle.escfilter.proofs.failing.Gate.take.Goals as goal

pub returns-clause-told : goal.returns-clause-told
returns-clause-told c =
    λ k xs was. told_more k xs c.args.sums c.args.self.now c.is_met-is_met.result
    c.is_met-is_met.ensures.counted was
