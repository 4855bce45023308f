use Rattle.std.proofs.Common.{sym, ◌∙◌}
use Rattle.escfilter.proofs.Failures.{complete_is}
use Rattle.escfilter.proofs.report.has_omissions.Goals as goal

pub returns : goal.returns
returns c =
    let w = complete_is c.args.sums in
    (λ h. w.0 (sym c.is_met.ensures.counted ∙ h), λ z. c.is_met.ensures.counted ∙ w.1 z)
