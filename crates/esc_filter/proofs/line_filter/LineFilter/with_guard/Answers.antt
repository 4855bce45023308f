use Rattle.std.proofs.Common.{refl}
use Rattle.esc_filter.proofs.ByLine.LinesAreStreams.{first_fed}
use Rattle.esc_filter.proofs.line_filter.LineFilter.with_guard.Goals as goal

pub returns-clause-fed : goal.returns-clause-fed
returns-clause-fed g c =
    first_fed c.args.guard c.args.limit (g.P.Admit.admits c.args.policy) _ c.begun.ensures.fed
    refl refl
