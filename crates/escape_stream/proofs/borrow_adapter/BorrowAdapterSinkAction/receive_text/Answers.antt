use Rattle.std.proofs.Common.{ap, chars, rules, ◌∙◌}
use Rattle.escape_stream.proofs.Lent.{may_text, run_clear, text_chars, text_given}
use Rattle.escape_stream.proofs.borrow_adapter.BorrowAdapterSinkAction.receive_text.Goals as goal

pub receive-requires-clause-ready : goal.receive-requires-clause-ready
receive-requires-clause-ready g c =
    may_text g.S.BorrowingSink.takes c.args.text.now c.as_str.result
    (ap chars c.as_str.ensures ∙ text_chars c.args.text.now c.requires.run.all) c.requires.run.some
    c.args.self.now c.nothing_begun.ensures g.S.BorrowingSink.is_ready g.S.BorrowingSink.may
    c.requires.ready

pub receive-requires-clause-text : goal.receive-requires-clause-text
receive-requires-clause-text g c = record {
  some = search rules;
  clear =
      run_clear c.args.text.now c.as_str.result.now c.requires.run.all
      (ap chars c.as_str.ensures ∙ text_chars c.args.text.now c.requires.run.all);
}

pub returns-clause-given : goal.returns-clause-given
returns-clause-given g c =
    text_given g.S.BorrowingSink.takes c.args.text.now c.as_str.result
    (ap chars c.as_str.ensures ∙ text_chars c.args.text.now c.requires.run.all) c.requires.run.some
    c.args.self.now c.nothing_begun.ensures g.S.BorrowingSink.refuses _ _ c.nothing_begun.ensures
    c.receive.ensures.given
