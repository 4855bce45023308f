use Rattle.std.proofs.Common.{subst, sym}
use Rattle.esc_filter.specs.Known.{IsKnown}
use Rattle.esc_filter.proofs.Admission.PolicyIsKnown.{nothing_known}
use Rattle.esc_filter.proofs.admit.Admit.known.Goals as goal

pub returns : goal.returns
returns g c =
    subst (IsKnown (g.Self.Admit.admits c.args.self.now)) (sym c.nothing.ensures)
    (nothing_known (g.Self.Admit.admits c.args.self.now))
