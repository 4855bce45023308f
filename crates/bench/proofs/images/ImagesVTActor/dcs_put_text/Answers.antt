use Rattle.bench.proofs.Anything.{anything_run, anything_emitted}
use Rattle.esc_frame.specs.Events.Event.{DcsPut}
use Rattle.bench.proofs.images.ImagesVTActor.dcs_put_text.Goals as goal

pub returns-in-Nothing-clause-emitted : goal.returns-in-Nothing-clause-emitted
returns-in-Nothing-clause-emitted c =
    anything_run DcsPut c.args.bytes.now c.args.self.now _ c.requires.run.some

pub returns-in-Sixel-clause-emitted : goal.returns-in-Sixel-clause-emitted
returns-in-Sixel-clause-emitted c =
    anything_emitted c.push_run.result DcsPut c.args.bytes.now c.args.self.now _ c.requires.run.some

pub returns-in-Query-clause-emitted : goal.returns-in-Query-clause-emitted
returns-in-Query-clause-emitted c =
    anything_emitted c.push_run-in-Query.result DcsPut c.args.bytes.now
    c.args.self.now _ c.requires.run.some
