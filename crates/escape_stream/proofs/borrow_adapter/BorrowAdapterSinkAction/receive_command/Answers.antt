use Rattle.std.proofs.Common.{◌≡◌, refl}
use Rattle.std.proofs.lemmas.Bool.{true≢false}
use Rattle.esc_values.specs.Clear.{parts_of}
use Rattle.esc_actions.specs.Values.{osc, value_of}
use Rattle.esc_actions.specs.declared.action.Action.TheVariants as action
use Rattle.esc_osc.specs.Reading.{meaning as command_meant}
use Rattle.escape_stream.proofs.Lent.{may_one, one_given, one_refused}
use Rattle.escape_stream.specs.declared.borrowed.ActionRef.TheVariants.{Command}
use Rattle.escape_stream.proofs.borrow_adapter.BorrowAdapterSinkAction.receive_command.Goals as goal

pub receive-requires-clause-ready : goal.receive-requires-clause-ready
receive-requires-clause-ready g c =
    may_one g.S.BorrowingSink.takes (λ a ps. value_of a ≡ osc (command_meant ps)) c.args.self.now
    c.nothing_begun.ensures _ (parts_of c.args.text.now)
    (action.OperatingSystemCommand (command_meant (parts_of c.args.text.now)))
    (Command c.args.text) refl refl refl
    g.S.BorrowingSink.is_ready g.S.BorrowingSink.may c.requires

pub returns-in-Ok-clause-given : goal.returns-in-Ok-clause-given
returns-in-Ok-clause-given g c = record {
  taken = λ _.
      one_given g.S.BorrowingSink.takes (λ a ps. value_of a ≡ osc (command_meant ps))
      c.args.self.now
      c.nothing_begun.ensures _ (parts_of c.args.text.now)
      (action.OperatingSystemCommand (command_meant (parts_of c.args.text.now)))
      (Command c.args.text) refl refl refl _
      c.nothing_begun.ensures c.in-Ok.ensures.given;
  left = λ e. absurd (true≢false e);
  refused = tt;
}

pub returns-in-Err-clause-given : goal.returns-in-Err-clause-given
returns-in-Err-clause-given g c = record {
  taken = tt;
  left = tt;
  refused =
      one_refused g.S.BorrowingSink.takes (λ a ps. value_of a ≡ osc (command_meant ps))
      c.args.self.now
      c.nothing_begun.ensures _ (parts_of c.args.text.now)
      (action.OperatingSystemCommand (command_meant (parts_of c.args.text.now)))
      (Command c.args.text) refl refl refl
      g.S.BorrowingSink.refuses _ c.in-Err.ensures.given;
}
