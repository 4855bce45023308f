use Rattle.bench.proofs.Anything.{anything_run}
use Rattle.esc_frame.specs.Events.Event.{DcsPut}
use Rattle.bench.proofs.count.CountVTActor.dcs_put_text.Goals as goal

pub returns-clause-emitted : goal.returns-clause-emitted
returns-clause-emitted c =
    anything_run DcsPut c.args.bytes.now c.args.self.now c.add.new.self c.requires.run.some
