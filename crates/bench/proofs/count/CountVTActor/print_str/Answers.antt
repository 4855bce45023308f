use Rattle.std.proofs.Common.{chars}
use Rattle.bench.proofs.Anything.{anything_run}
use Rattle.esc_frame.specs.Events.Event.{Print}
use Rattle.esc_parse.proofs.Runs.RunsOfText.{some_chars}
use Rattle.bench.proofs.count.CountVTActor.print_str.Goals as goal

pub returns-clause-emitted : goal.returns-clause-emitted
returns-clause-emitted c =
    anything_run Print (chars c.args.text.now) c.args.self.now c.add.new.self
    (some_chars c.args.text.now c.utf8.text c.requires.run.some)
