use Rattle.esc_parse.proofs.Runs.RunsOfText.{run_awaits, run_stopped, run_taken}
use Rattle.std.proofs.Math.Logic.{⊎_map}
use Rattle.esc_parse.proofs.performer.PerformerVTActor.print_text.Goals as goal

pub returns-in-Ok-clause-emitted : goal.returns-in-Ok-clause-emitted
returns-in-Ok-clause-emitted g c =
    run_taken g.S.Sink.takes g.S.Sink.refuses c.args.text.now c.args.self.now _
    c.in-Ok.ensures.given

pub returns-in-Err-clause-emitted : goal.returns-in-Err-clause-emitted
returns-in-Err-clause-emitted g c =
    run_stopped g.S.Sink.takes g.S.Sink.refuses ⊥ c.args.text.now c.args.self.now _
    c.in-Err.ensures.given

pub receive_text-requires-clause-ready : goal.receive_text-requires-clause-ready
receive_text-requires-clause-ready g c =
    ⊎_map (λ r. r) (run_awaits g.S.Sink.takes g.S.Sink.refuses g.S.Sink.may c.args.text.now
    c.args.self.now) c.requires.ready
