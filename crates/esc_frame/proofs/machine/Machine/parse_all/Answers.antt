use Rattle.std.proofs.Common.{take, refl, sym, ◌∙◌, subst, Ok, Err, arith}
use Rattle.esc_frame.specs.Leads.{Holds}
use Rattle.esc_frame.specs.Machine.Calls.{Fails}
use Rattle.esc_frame.proofs.Limit.KeepsLimit.{took_under, awaits_under}
use Rattle.esc_frame.specs.Machine.Moves.{after_all}
use Rattle.esc_frame.proofs.ByteRuns.ManyBytes.{ran_took, ran_ends, tail_length}
use Rattle.std.proofs.Math.Logic.{⊎_map}
use Rattle.esc_frame.proofs.Emits.MayInGround.{cut_rest}
use Rattle.esc_frame.proofs.Steps.FailureIsHandedOn.{error_of}
use Rattle.esc_frame.proofs.machine.Machine.parse_all.Goals as goal

pub loop-at-preserved : goal.loop-at-preserved
loop-at-preserved g c =
    let i = c.loop-at.at in
    let bs = c.args.bytes.now in
    let same = c.loop-at.invariant.3 in
    let l = tail_length bs i in (
      omega (arith, c.in_ok-n.ensures.count),
      (λ r. c.in_ok-n.ensures.count.2 (c.loop-at.invariant.1 r)),
      λ u h.
          let p = c.loop-at.invariant.2 u h in
          let v = after_all u (take i bs) in
          ran_took c.args.self.now.limit g.V.EventSink.takes g.V.EventSink.refuses u v bs i
          c.args.actor.now
          _ _ refl
          p.1 g.K.TextRoom.keeps c.parse_run.new.self c.in_ok-n.n p.2
          (took_under {E = Unit {0}} g.K.TextRoom.keeps
          (Fails g.K.TextRoom.may_fail g.V.EventSink.stops g.row.A.Denot) g.V.EventSink.takes
          g.V.EventSink.refuses
          (Ok c.in_ok-n.n) v _ c.parse_run.new.self _ _ same
          (c.in_ok-n.ensures.took v
          (subst (λ l. Holds g.K.TextRoom.keeps l c.loop-at.self v) (sym same) p.0))),
      c.in_ok-n.ensures.count.3 ∙ same,
    )

pub returns-in_err-n-clause-emitted : goal.returns-in_err-n-clause-emitted
returns-in_err-n-clause-emitted g c = λ u h.
    rw (error_of c.from_residual.result c.from_residual.ensures.0).1
    (let i = c.loop-at.at in
    let bs = c.args.bytes.now in
    let same = c.loop-at.invariant.3 in
    let p = c.loop-at.invariant.2 u h in
    let v = after_all u (take i bs) in
    ran_ends c.args.self.now.limit g.V.EventSink.takes g.V.EventSink.refuses u v bs i
    c.args.actor.now _ _
    refl p.1
    p.2
    (took_under g.K.TextRoom.keeps
    (Fails g.K.TextRoom.may_fail g.V.EventSink.stops g.row.A.Denot) g.V.EventSink.takes
    g.V.EventSink.refuses
    (Err (tt {0})) v _ c.parse_run.new.self _ _ same
    (c.in_err-n.ensures.took v
    (subst (λ l. Holds g.K.TextRoom.keeps l c.loop-at.self v) (sym same) p.0))))

pub parse_run-requires-clause-ready : goal.parse_run-requires-clause-ready
parse_run-requires-clause-ready g c =
    let i = c.loop-at.at in
    let bs = c.args.bytes.now in
    let same = c.loop-at.invariant.3 in
    ⊎_map c.loop-at.invariant.1 (λ w.
    let p = c.loop-at.invariant.2 w.0 w.1 in (
      after_all w.0 (take i bs),
      subst (λ l. Holds g.K.TextRoom.keeps l c.loop-at.self (after_all w.0 (take i bs))) (sym same)
          p.0,
      awaits_under g.V.EventSink.may g.V.EventSink.takes (after_all w.0 (take i bs)) _ _ same
          (cut_rest g.V.EventSink.may g.V.EventSink.takes bs i c.args.self.now.limit w.0
          (after_all w.0 (take i bs)) c.args.actor.now _ refl p.1 w.2),
    )) c.requires
