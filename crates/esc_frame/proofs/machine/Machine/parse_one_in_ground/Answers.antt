use Rattle.std.proofs.Common.{false, refl, arith}
use Rattle.esc_frame.specs.Leads.Unfinished.{Ground}
use Rattle.esc_frame.proofs.Borrow.BytesAreLent.{one_fresh, one_unborrowed}
use Rattle.esc_frame.proofs.ByteRuns.QuietRuns.{quiet_took, quiet_stops}
use Rattle.esc_frame.proofs.Emits.StopsAtFirstEvent.{one_still}
use Rattle.esc_frame.proofs.Steps.FailureIsHandedOn.{error_of}
use Rattle.esc_frame.proofs.machine.Machine.parse_one_in_ground.Goals as goal

pub returns : goal.returns
returns g c = λ limit. let ready = c.in_ok-in_ground.ensures.ready in (
  quiet_took limit g.V.EventSink.takes g.V.EventSink.refuses Ground Ground c.args.rest.now 0 _
      c.args.actor.now _ (refl, refl) c.requires.some c.classify.ensures
      g.K.TextRoom.keeps c.in_ground.new.self (one_fresh Ground c.args.rest.now refl)
      (c.in_ok-in_ground.ensures.moved limit false),
  one_still limit Ground c.args.rest.now,
  (omega arith, c.requires.some, ready.1, ready.0),
)

pub returns-in_err-in_ground : goal.returns-in_err-in_ground
returns-in_err-in_ground g c = λ limit.
    rw (error_of c.from_residual.result c.from_residual.ensures.0).1 (
      quiet_stops limit g.V.EventSink.takes g.V.EventSink.refuses Ground Ground c.args.rest.now 0 _
          c.args.actor.now _ (refl, refl) c.requires.some c.classify.ensures
          (one_unborrowed Ground c.args.rest.now refl)
          (c.in_err-in_ground.ensures.moved limit false),
      tt,
      tt,
    )
