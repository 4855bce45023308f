use Rattle.dump_page.proofs.PagesMore.{pages_more, pages_on}
use Rattle.escdump.proofs.run.dump_all.Goals as goal

pub loop-preserved : goal.loop-preserved
loop-preserved g c =
    record { printed = pages_more _ _ _ c.loop.invariant.printed c.in_ok-print.ensures }

pub returns : goal.returns
returns g c = pages_on c.print-2.result _ _ _ c.loop.invariant.printed c.print-2.ensures
