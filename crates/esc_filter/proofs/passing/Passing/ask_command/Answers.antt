use Rattle.std.proofs.Common.{◌∙◌, inl}
use Rattle.std.proofs.lemmas.Bool.{true≢false}
use Rattle.esc_values.specs.Clear.{parts_of}
use Rattle.esc_filter.proofs.Renditions.SequencesFromParameters.{command_passes, command_refused, command_stays, left_alone}
use Rattle.esc_filter.proofs.passing.Passing.ask_command.Goals as goal

pub returns-in-Some-true : goal.returns-in-Some-true
returns-in-Some-true g c =
    let ps = parts_of c.args.text.now in
    let written = c.receive_command in record {
      taken = command_passes g.P.Admit.admits written.result ps c.args.self.now written.new.self
          (c.in-Some-true.ensures ∙ c.in-Some-true.field-0-test) written.ensures.given.taken;
      left = left_alone g.P.Admit.admits written.result c.args.self.now written.new.self
          written.ensures.given.left;
      refused = command_refused g.P.Admit.admits written.result ps c.args.self.now
          written.new.self written.ensures.given.refused;
    }

pub returns-in-Some-false : goal.returns-in-Some-false
returns-in-Some-false g c = record {
  taken = λ _. command_stays g.P.Admit.admits (parts_of c.args.text.now) c.args.self.now
      (c.in-Some-false.ensures ∙ c.in-Some-false.field-0-test);
  left = λ e. absurd (true≢false e);
  refused = tt;
}

pub receive_command-requires : goal.receive_command-requires
receive_command-requires g c = inl tt
