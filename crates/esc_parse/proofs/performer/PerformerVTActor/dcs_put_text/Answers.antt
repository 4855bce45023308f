use Rattle.std.proofs.Common.{sym}
use Rattle.esc_parse.proofs.Runs.RunsOfData.{data_awaits, given_run, given_stopped, quiet_refused, quiet_run}
use Rattle.std.proofs.Math.Logic.{⊎_map}
use Rattle.esc_parse.proofs.performer.PerformerVTActor.dcs_put_text.Goals as goal

pub returns-in-Ok-clause-emitted : goal.returns-in-Ok-clause-emitted
returns-in-Ok-clause-emitted g c =
    given_run g.S.Sink.takes g.S.Sink.refuses c.args.bytes.now c.args.self.now _
    (sym c.if-is_entered.ensures.mode) c.in-Ok.ensures.given

pub returns-in-Err-clause-emitted : goal.returns-in-Err-clause-emitted
returns-in-Err-clause-emitted g c =
    given_stopped g.S.Sink.takes g.S.Sink.refuses ⊥ c.args.bytes.now c.args.self.now _
    (sym c.if-is_entered.ensures.mode)
    c.in-Err.ensures.given

pub returns-in-Ok-push_run-clause-emitted : goal.returns-in-Ok-push_run-clause-emitted
returns-in-Ok-push_run-clause-emitted g c =
    quiet_run g.S.Sink.takes g.S.Sink.refuses c.args.bytes.now c.args.self.now _
    (sym c.if-is_entered.ensures.mode) c.in-Ok-push_run.ensures.ok

pub returns-in-Err-push_run-clause-emitted : goal.returns-in-Err-push_run-clause-emitted
returns-in-Err-push_run-clause-emitted g c =
    quiet_refused g.S.Sink.takes g.S.Sink.refuses ⊥ c.args.bytes.now c.args.self.now _
    c.requires.run.some (sym c.if-is_entered.ensures.mode)
    c.in-Err-push_run.ensures.refused

pub give_data-requires : goal.give_data-requires
give_data-requires g c =
    ⊎_map (λ r. r) (data_awaits g.S.Sink.takes g.S.Sink.refuses g.S.Sink.may c.args.bytes.now
    c.args.self.now
    (sym c.if-is_entered.ensures.mode)) c.requires.ready
