use Rattle.std.proofs.Common.{refl, subst, sym}
use Rattle.eschtml.proofs.piped.Piped.new.Goals as goal

pub returns-clause-begins : goal.returns-clause-begins
returns-clause-begins g c = λ m e n d first none second adds. record {
  of_first = m;
  first_ended = e;
  of_second = n;
  second_ended = d;
  adds = adds;
  first = first;
  second = subst (λ s. g.G.StreamFilter.gives c.args.second n d s) (sym none) second;
  goes_on = refl;
  ended = refl;
}
