use Rattle.dump_page.specs.Quoted.{QuotesSome}
use Rattle.dump_page.proofs.quoted.push_run.Given as goal

abbrev pub invariant-loop-c : goal.invariant-loop-c
invariant-loop-c l = QuotesSome l.fn.to l.to
