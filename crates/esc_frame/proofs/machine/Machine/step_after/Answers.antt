use Rattle.std.proofs.Common.{rules, take, refl, ◌+◌, arith}
use Rattle.std.proofs.Math.Logic.{⊎_map}
use Rattle.esc_frame.specs.Machine.Moves.{after_all}
use Rattle.esc_frame.proofs.Borrow.BytesAreLent.{run_fresh}
use Rattle.esc_frame.proofs.ByteRuns.QuietRuns.{quiet_folds, quiet_took, quiet_stops}
use Rattle.esc_frame.proofs.Emits.MayAfterQuietRun.{next_awaited}
use Rattle.esc_frame.proofs.Emits.StopsAtFirstEvent.{less_still}
use Rattle.esc_frame.proofs.Steps.FailureIsHandedOn.{error_of}
use Rattle.esc_frame.proofs.machine.Machine.step_after.Goals as goal

pub returns-then-run-rest : goal.returns-then-run-rest
returns-then-run-rest g c = record {
  took = λ u h r. (
    h,
    quiet_folds g.V.EventSink.takes _ c.args.actor.now r.none,
    (run_fresh u c.args.rest.now c.args.run r.unlent).0,
  );
  quiet = λ u s.
      less_still c.args.self.now.limit u c.args.rest.now c.args.run (c.args.run + 1) (omega arith)
      s;
  count = search rules;
}

pub returns : goal.returns
returns g c = record {
  took = λ u h r.
      let v = after_all u (take c.args.run c.args.rest.now) in
      quiet_took c.args.self.now.limit g.V.EventSink.takes g.V.EventSink.refuses u v
      c.args.rest.now c.args.run _ c.args.actor.now _ (refl, r.none) (omega arith)
      c.classify.ensures g.K.TextRoom.keeps c.step.new.self
      (run_fresh u c.args.rest.now c.args.run r.unlent).1
      (c.in_ok-step.ensures.moved c.classify.ensures v h);
  quiet = λ u s. s;
  count = search rules;
}

pub returns-in_err-step : goal.returns-in_err-step
returns-in_err-step g c = record {
  took = λ u h r.
      rw (error_of c.from_residual.result c.from_residual.ensures.0).1
      (let v = after_all u (take c.args.run c.args.rest.now) in
      quiet_stops c.args.self.now.limit g.V.EventSink.takes g.V.EventSink.refuses u v
      c.args.rest.now c.args.run _ c.args.actor.now _ (refl, r.none) (omega arith)
      c.classify.ensures r.unlent (c.in_err-step.ensures.moved c.classify.ensures v h));
  quiet = search rules;
  count = search rules;
}

pub step-requires : goal.step-requires
step-requires g c =
    ⊎_map (λ r. r) (λ w. (
      after_all w.0 (take c.args.run c.args.rest.now),
      w.1,
      next_awaited g.V.EventSink.may g.V.EventSink.takes c.args.self.now.limit w.0 _
          c.args.rest.now c.args.run _ (refl, w.2) (omega arith) c.classify.ensures w.3,
    )) c.requires.ready
