use Rattle.std.proofs.Common.{chars, refl}
use Rattle.esc_parse.proofs.Runs.RunsOfText.{some_chars}
use Rattle.escape_stream.proofs.Lent.{may_text, text_given}
use Rattle.escape_stream.proofs.borrow_adapter.BorrowAdapterSinkAction.receive_str.Goals as goal

pub receive-requires-clause-ready : goal.receive-requires-clause-ready
receive-requires-clause-ready g c =
    may_text g.S.BorrowingSink.takes (chars c.args.text.now) c.args.text refl
    (some_chars c.args.text.now c.utf8.text c.requires.run.some) c.args.self.now
    c.nothing_begun.ensures g.S.BorrowingSink.is_ready g.S.BorrowingSink.may c.requires.ready

pub returns-clause-given : goal.returns-clause-given
returns-clause-given g c =
    text_given g.S.BorrowingSink.takes (chars c.args.text.now) c.args.text refl
    (some_chars c.args.text.now c.utf8.text c.requires.run.some) c.args.self.now
    c.nothing_begun.ensures g.S.BorrowingSink.refuses _ _ c.nothing_begun.ensures
    c.receive.ensures.given
