use Rattle.std.proofs.lemmas.Bool.{true≢false}
use Rattle.esc_values.specs.Clear.{parts_of}
use Rattle.esc_osc.specs.Reading.{meaning as command_meant}
use Rattle.esc_filter.proofs.Admission.CommandsAreKnown.{other_begins}
use Rattle.esc_filter.proofs.Renditions.SequencesFromParameters.{command_stays}
use Rattle.esc_filter.proofs.passing.PassingSinkAction.receive_command.Goals as goal

pub returns-then-known-clause-given : goal.returns-then-known-clause-given
returns-then-known-clause-given g c = record {
  taken = λ _.
      let ps = parts_of c.args.text.now in
      command_stays g.P.Admit.admits ps c.args.self.now
      (c.known-known.ensures.no_commands c.if-known.true (command_meant ps)
      (other_begins g.row.A.Denot c.args.text.now
      (c.has_other_code.ensures c.if-has_other_code.true)));
  left = λ e. absurd (true≢false e);
  refused = tt;
}
