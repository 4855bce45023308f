use Rattle.std.proofs.Common.{[]}
use Rattle.dump_page.proofs.Quoting.{quotes_more, quotes_nothing}
use Rattle.dump_page.proofs.quoted.push_units.Goals as goal

pub loop-unit-init : goal.loop-unit-init
loop-unit-init c = ([], quotes_nothing _)

pub loop-unit-preserved : goal.loop-unit-preserved
loop-unit-preserved c =
    let held = c.loop-unit.invariant in
    (_, quotes_more _ _ _ _ _ held.1 c.in_ok-push_unit.ensures.1)
