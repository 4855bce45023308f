use Rattle.page_input.specs.Linked.{IsPaid, debt}
use Rattle.page_input.proofs.linking.LinkingRead.read.Given as goal

abbrev pub invariant-loop : goal.invariant-loop
invariant-loop g l =
    IsPaid (g.R.Read.remaining l.fn.self.inner) (g.R.Read.remaining l.self.inner) (debt l.fn.self)
    (debt l.self)
