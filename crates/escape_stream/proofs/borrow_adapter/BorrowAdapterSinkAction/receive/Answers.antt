use Rattle.escape_stream.proofs.Lent.{alone_given, may_alone}
use Rattle.escape_stream.proofs.borrow_adapter.BorrowAdapterSinkAction.receive.Goals as goal

pub receive-requires-clause-ready : goal.receive-requires-clause-ready
receive-requires-clause-ready g c =
    may_alone g.S.BorrowingSink.takes c.args.self.now c.args.self.now c.args.action c.lent.result
    c.nothing_begun.ensures c.nothing_begun.ensures c.lent.ensures.value _
    g.S.BorrowingSink.may c.requires

pub returns-clause-given : goal.returns-clause-given
returns-clause-given g c =
    alone_given g.S.BorrowingSink.takes c.args.self.now _ c.args.action c.lent.result
    c.nothing_begun.ensures c.nothing_begun.ensures c.lent.ensures.value
    g.S.BorrowingSink.refuses _ c.receive.ensures.given
