use Rattle.std.proofs.Common.{[], false, subst}
use Rattle.esc_filter.specs.Fed.{HasConsumedIn}
use Rattle.esc_filter.proofs.filter.Filter.with_unicode.Goals as goal

pub returns-clause-fed : goal.returns-clause-fed
returns-clause-fed g c =
    subst (λ u. HasConsumedIn u false c.args.limit (g.P.Admit.admits c.args.policy) []
    c.with_guard.result) c.of_unicode.ensures c.with_guard.ensures.fed
