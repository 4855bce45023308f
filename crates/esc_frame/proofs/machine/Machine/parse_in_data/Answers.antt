use Rattle.std.proofs.Common.{◌≡◌, true, refl, sym, subst, take, rules}
use Rattle.std.specs.List.{FoldsTo}
use Rattle.esc_frame.specs.Events.{StopsAt}
use Rattle.esc_frame.specs.Machine.Calls.{Fails}
use Rattle.esc_frame.specs.Machine.Moves.{may_grow_within}
use Rattle.esc_frame.specs.Scans.{is_data_byte}
use Rattle.esc_frame.proofs.Emits.EventsFold.{stops_for}
use Rattle.esc_frame.proofs.ByteRuns.ManyBytes.{stop_within}
use Rattle.esc_frame.proofs.Steps.StateIsKnown.{data_fresh}
use Rattle.esc_frame.proofs.ByteRuns.StringRuns.{data_holds, all_pass}
use Rattle.std.proofs.Math.Logic.{⊎_map}
use Rattle.esc_frame.proofs.Emits.MayInGround.{cut_first}
use Rattle.esc_frame.proofs.Steps.FailureIsHandedOn.{error_of}
use Rattle.esc_frame.proofs.machine.Machine.parse_in_data.Goals as goal

pub dcs_put_text-requires-clause-run : goal.dcs_put_text-requires-clause-run
dcs_put_text-requires-clause-run g c = record {
  some = search rules;
  all = all_pass is_data_byte c.args.rest.now c.data_run-run.result c.data_run-run.ensures.run;
}

pub returns : goal.returns
returns g c = record {
  took = λ u h.
      let q = data_holds g.K.TextRoom.keeps c.args.self.now.limit c.args.self.now
      (take c.data_run-run.result c.args.rest.now)
      (all_pass is_data_byte c.args.rest.now c.data_run-run.result c.data_run-run.ensures.run) u
      c.requires.state h in (
        q.0,
        subst (λ es. FoldsTo g.V.EventSink.takes c.args.actor.now es c.dcs_put_text.new.self)
            (sym q.1)
            c.in_ok-dcs_put_text.ensures.emitted,
        data_fresh g.K.TextRoom.keeps c.args.self.now.limit c.args.self.now u c.args.rest.now
            c.data_run-run.result c.requires.state h,
      );
  count = search rules;
}

pub returns-in_err-dcs_put_text : goal.returns-in_err-dcs_put_text
returns-in_err-dcs_put_text g c = record {
  took = λ u h.
      rw (error_of c.from_residual.result c.from_residual.ensures.0).1
      (let q = data_holds g.K.TextRoom.keeps c.args.self.now.limit c.args.self.now
      (take c.data_run-run.result c.args.rest.now)
      (all_pass is_data_byte c.args.rest.now c.data_run-run.result c.data_run-run.ensures.run) u
      c.requires.state h in
      let own : Type 0 = (may_grow_within u c.args.rest.now ≡ true)
      × Fails g.K.TextRoom.may_fail g.V.EventSink.stops g.row.A.Denot c.args.self.now.limit in
      stop_within c.args.self.now.limit own g.V.EventSink.takes g.V.EventSink.refuses u
      c.args.rest.now
      c.data_run-run.result c.args.actor.now c.dcs_put_text.new.self
      (stops_for ⊥ own g.V.EventSink.takes g.V.EventSink.refuses _ c.args.actor.now
      c.dcs_put_text.new.self (λ no. absurd no)
      (subst (λ es. StopsAt ⊥ g.V.EventSink.takes g.V.EventSink.refuses c.args.actor.now es
      c.dcs_put_text.new.self) (sym q.1) c.in_err-dcs_put_text.ensures.emitted)));
  count = search rules;
}

pub parse_one-requires-clause-between : goal.parse_one-requires-clause-between
parse_one-requires-clause-between g c = rw c.requires.state refl

pub dcs_put_text-requires-clause-ready : goal.dcs_put_text-requires-clause-ready
dcs_put_text-requires-clause-ready g c =
    let a = c.args.actor.now in
    let run = c.data_run-run.result in
    ⊎_map (λ r. r) (λ w.
    cut_first g.V.EventSink.may g.V.EventSink.takes c.args.rest.now run c.args.self.now.limit w.0 _
    a
    (data_holds g.K.TextRoom.keeps c.args.self.now.limit c.args.self.now (take run c.args.rest.now)
    (all_pass is_data_byte c.args.rest.now run c.data_run-run.ensures.run) w.0
    c.requires.state w.1).1 w.2) c.requires.ready
