use Rattle.std.proofs.Common.{map, subst, arith}
use Rattle.std.specs.List.{FoldsTo}
use Rattle.std.specs.Str.{chars}
use Rattle.esc_frame.specs.Events.Event.{Print}
use Rattle.esc_frame.proofs.ByteRuns.FirstCharacter.{next_within, tail_next, tail_some, tail_clear}
use Rattle.esc_frame.proofs.Emits.TextsByCharacter.{next_spelled, stop_given, all_spelled, may_spell}
use Rattle.esc_frame.proofs.Steps.FailureIsHandedOn.{error_of}
use Rattle.esc_frame.proofs.taker.EventSink.print_str.Goals as goal

pub loop-at-preserved : goal.loop-at-preserved
loop-at-preserved g c =
    next_spelled g.Self.EventSink.takes g.Self.EventSink.refuses g.Self.EventSink.is_ready
    c.as_bytes-bytes.result.now c.loop-at.at _ _ c.args.self.now _ _ c.loop-at.invariant
    (tail_next c.as_bytes-bytes.result.now c.loop-at.at _ _ c.first_of-c.ensures.next)
    c.in_ok-print.ensures.receives c.in_ok-print.ensures.ready

pub returns-in_err-print : goal.returns-in_err-print
returns-in_err-print g c =
    let err = error_of c.from_residual.result c.from_residual.ensures.0 in rw err.1 (record {
      emitted = stop_given g.Self.EventSink.takes g.Self.EventSink.refuses g.Self.EventSink.is_ready
          c.as_bytes-bytes.result.now _ c.as_bytes-bytes.ensures.value c.loop-at.at _ _
          c.args.self.now _ _ c.loop-at.invariant
          (tail_next c.as_bytes-bytes.result.now c.loop-at.at _ _ c.first_of-c.ensures.next)
          ⊥ c.in_err-print.ensures.receives;
      ready = λ r. tt;
    })

pub returns : goal.returns
returns g c = record {
  emitted = subst (λ y. FoldsTo g.Self.EventSink.takes c.args.self.now (map Print (chars y))
      c.loop-at.self) c.as_bytes-bytes.ensures.value
      (all_spelled g.Self.EventSink.takes g.Self.EventSink.refuses g.Self.EventSink.is_ready
      c.as_bytes-bytes.result.now c.loop-at.at c.args.self.now _
      (omega arith) c.loop-at.invariant);
  ready = c.loop-at.invariant.3;
}

pub first_of-c-requires-clause-some : goal.first_of-c-requires-clause-some
first_of-c-requires-clause-some g c =
    tail_some c.as_bytes-bytes.result.now c.loop-at.at c.loop-at-test.true

pub first_of-c-requires-clause-clear : goal.first_of-c-requires-clause-clear
first_of-c-requires-clause-clear g c =
    tail_clear c.as_bytes-bytes.result.now c.loop-at.at c.loop-at.invariant.1

pub overflow_add-at : goal.overflow_add-at
overflow_add-at g c =
    let w = next_within c.as_bytes-bytes.result.now c.loop-at.at _ _ c.loop-at-test.true
    c.first_of-c.ensures.next in omega arith

pub print-requires : goal.print-requires
print-requires g c =
    may_spell g.Self.EventSink.takes g.Self.EventSink.refuses g.Self.EventSink.is_ready
    c.as_bytes-bytes.result.now g.Self.EventSink.may _ c.as_bytes-bytes.ensures.value c.loop-at.at _
    _
    c.args.self.now _ c.loop-at.invariant
    (tail_next c.as_bytes-bytes.result.now c.loop-at.at _ _ c.first_of-c.ensures.next)
    c.requires.ready
