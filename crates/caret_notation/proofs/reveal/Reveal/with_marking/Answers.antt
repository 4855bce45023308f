use Rattle.std.proofs.Common.{refl}
use Rattle.caret_notation.proofs.reveal.Reveal.with_marking.Goals as goal

pub returns-clause-fed : goal.returns-clause-fed
returns-clause-fed g c = record {
  unfailed = refl;
  framed = c.with_limit.ensures;
  kept = c.new.ensures c.args.limit;
}
