use Rattle.std.proofs.Common.{refl}
use Rattle.esc_terminal.proofs.Runs.{all_columns, run_taken}
use Rattle.esc_terminal.proofs.state.State.print_all.Goals as goal

pub returns-in-None : goal.returns-in-None
returns-in-None g c =
    run_taken c.args.text.now c.args.self.now _
    (all_columns c.args.text.now c.requires.all c.in-None.ensures) c.requires.some
    c.print_run.ensures refl refl refl
