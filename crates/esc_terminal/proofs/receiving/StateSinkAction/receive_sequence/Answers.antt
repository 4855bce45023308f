use Rattle.std.proofs.Common.{rules}
use Rattle.std.proofs.lemmas.Bool.{true≢false}
use Rattle.esc_terminal.proofs.Runs.{err_any, sequence_refused, sequence_taken}
use Rattle.esc_terminal.proofs.receiving.StateSinkAction.receive_sequence.Goals as goal

pub returns-in_err-take_sequence-clause-given : goal.returns-in_err-take_sequence-clause-given
returns-in_err-take_sequence-clause-given g c = record {
  taken = search rules;
  left = search rules;
  refused =
      err_any c.from_residual.result
      (sequence_refused c.args.self.now c.take_sequence.new.self c.args.params.now
      c.args.parameters_truncated c.args.control
      (c.is_unspecified.ensures c.if-not-is_unspecified.false)
      c.in_err-take_sequence.ensures.refused);
}

pub returns-clause-given : goal.returns-clause-given
returns-clause-given g c = record {
  taken = λ _.
      let p = c.args.self.now in
      sequence_taken p c.take_sequence.new.self c.args.params.now c.args.parameters_truncated
      c.args.control c.if-parameters_truncated.false
      (c.is_unspecified.ensures c.if-not-is_unspecified.false)
      c.in_ok-take_sequence.ensures.ok;
  left = λ e. absurd (true≢false e);
  refused = tt;
}
