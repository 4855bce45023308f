use Rattle.std.proofs.Common.{ap}
use Rattle.line_collapse.proofs.Streams.{first_fed}
use Rattle.line_collapse.proofs.collapse.LineCollapser.on.Goals as goal

pub returns-clause-fed : goal.returns-clause-fed
returns-clause-fed g c =
    first_fed c.args.window _ _ _ _ _ c.max-columns.ensures c.max-rows.ensures
    c.in_ok-terminal.ensures.fed c.new.ensures c.tally_if.ensures

pub returns-clause-empty : goal.returns-clause-empty
returns-clause-empty g c = ap (λ o. o.text) c.new.ensures
