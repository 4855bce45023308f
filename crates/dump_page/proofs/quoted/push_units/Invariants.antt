use Rattle.dump_page.specs.Quoted.{QuotesSome}
use Rattle.dump_page.proofs.quoted.push_units.Given as goal

abbrev pub invariant-loop-unit : goal.invariant-loop-unit
invariant-loop-unit l = QuotesSome l.fn.to l.to
