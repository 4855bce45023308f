use Rattle.dump_page.specs.Pages.{AppendsPage}
use Rattle.escdump.proofs.run.dump_all.Given as goal

abbrev pub invariant-loop : goal.invariant-loop
invariant-loop g l = record {
  printed : AppendsPage (g.W.Write.contents l.fn.output) (g.W.Write.contents l.output);
}
