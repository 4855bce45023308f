use Rattle.bench.proofs.Anything.{anything_run}
use Rattle.esc_frame.specs.Events.Event.{Print}
use Rattle.bench.proofs.count.CountVTActor.print_text.Goals as goal

pub returns-clause-emitted : goal.returns-clause-emitted
returns-clause-emitted c =
    anything_run Print c.args.text.now c.args.self.now c.add.new.self c.requires.run.some
