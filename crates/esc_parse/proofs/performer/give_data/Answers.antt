use Rattle.std.proofs.Common.{arith, get_or, refl}
use Rattle.esc_actions.specs.Values.{datum, value_of}
use Rattle.esc_actions.specs.declared.action.Action.TheVariants as action
use Rattle.esc_device.specs.declared.mode.DeviceControlMode.TheVariants as device
use Rattle.esc_parse.proofs.Runs.RunsOfText.{stops_next, takes_next}
use Rattle.esc_frame.proofs.Emits.MayAfterSome.{get_each}
use Rattle.std.proofs.Math.Logic.{⊎_map}
use Rattle.esc_parse.specs.Given.{AnyAt}
use Rattle.esc_parse.proofs.performer.give_data.Goals as goal
use Rattle.esc_parse.specs.Given.{At}

pub returns-in-Err-clause-given : goal.returns-in-Err-clause-given
returns-in-Err-clause-given g c =
    let at = c.loop-byte in
    stops_next datum (At value_of g.S.Sink.takes)
    (At value_of g.S.Sink.refuses) c.args.bytes.now at.byte-index
    (omega arith) c.args.sink.now _ _ at.invariant.1 (
      action.DeviceControl (device.Data (get_or c.args.bytes.now at.byte-index 0)),
      refl,
      c.in-Err.ensures.given,
    )

pub loop-byte-preserved : goal.loop-byte-preserved
loop-byte-preserved g c =
    let at = c.loop-byte in (
      (λ r. c.in-Ok.ensures.ready (at.invariant.0 r)),
      takes_next datum (At value_of g.S.Sink.takes)
          (At value_of g.S.Sink.refuses) c.args.bytes.now at.byte-index
          (omega arith) c.args.sink.now _ _
          at.invariant.1 (
            action.DeviceControl (device.Data (get_or c.args.bytes.now at.byte-index 0)),
            refl,
            c.in-Ok.ensures.given,
          ),
    )

pub receive-requires : goal.receive-requires
receive-requires g c =
    let at = c.loop-byte in
    ⊎_map (λ r. r) (λ any. any _ refl)
    (get_each g.S.Sink.is_ready (AnyAt value_of g.S.Sink.may)
    (At value_of g.S.Sink.takes) datum c.args.bytes.now at.byte-index
    (omega arith) c.args.sink.now at.sink at.invariant.0 at.invariant.1 c.requires)
