use Rattle.std.proofs.lemmas.Bool.{true≢false}
use Rattle.esc_values.specs.Clear.{parts_of}
use Rattle.esc_osc.specs.Reading.{meaning as command_meant}
use Rattle.esc_account.proofs.Fates.CommandsAreWeighed.{command_taken}
use Rattle.esc_account.proofs.weighing.WeighingSinkAction.receive_command.Goals as goal

pub returns-in-Some-clause-given : goal.returns-in-Some-clause-given
returns-in-Some-clause-given g c =
    let ps = parts_of c.args.text.now in record {
      taken = λ _. command_taken g.P.Admit.admits c.args.self.now _ ps
          (c.weigh_command.ensures (command_meant ps) c.in-Some.ensures);
      left = λ e. absurd (true≢false e);
      refused = tt;
    }
