use Rattle.dump_page.specs.Quoted.{QuotesSome}
use Rattle.dump_page.proofs.quoted.push_part.Given as goal

abbrev pub invariant-loop-part : goal.invariant-loop-part
invariant-loop-part l = QuotesSome l.fn.to l.to
