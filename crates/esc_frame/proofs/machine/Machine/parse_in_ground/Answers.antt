use Rattle.std.proofs.Common.{◌≡◌, ◌∙◌, sym, subst, Ok, Err, rules}
use Rattle.std.proofs.Math.Logic.{⊎_map}
use Rattle.esc_frame.specs.Leads.{Holds}
use Rattle.esc_frame.specs.Leads.Unfinished.{Ground}
use Rattle.esc_frame.specs.Machine.Calls.{Fails}
use Rattle.esc_frame.proofs.Borrow.BytesAreLent.{ground_fresh}
use Rattle.esc_frame.proofs.ByteRuns.ManyBytes.{ran_again, ran_none, ran_refused, ran_took, ran_ends}
use Rattle.esc_frame.proofs.Emits.EventsFold.{stops_for}
use Rattle.esc_frame.proofs.Emits.MayInGround.{may_after, cut_rest}
use Rattle.esc_frame.proofs.Limit.KeepsLimit.{took_under, awaits_under}
use Rattle.esc_frame.proofs.Steps.FailureIsHandedOn.{error_of}
use Rattle.esc_frame.proofs.machine.Machine.parse_in_ground.Goals as goal

pub loop-at-preserved : goal.loop-at-preserved
loop-at-preserved g c = let ground = c.in-Ok.ensures.ground in (
  ran_again g.V.EventSink.takes g.V.EventSink.refuses g.V.EventSink.is_ready c.args.rest.now
      c.loop-at.at
      c.in-Ok.n c.args.actor.now _ _ c.loop-at.invariant.0
      c.in-Ok.ensures.stays,
  (ground.0, ground.1 ∙ c.loop-at.invariant.1.1),
)

pub parse_fast-requires-clause-ready : goal.parse_fast-requires-clause-ready
parse_fast-requires-clause-ready g c =
    may_after g.V.EventSink.is_ready g.V.EventSink.may g.V.EventSink.takes c.args.rest.now
    c.loop-at.at
    c.args.actor.now _ c.loop-at.invariant.0
    (⊎_map (λ r. r) (λ w. (c.args.self.now.limit, w)) c.requires.ready)

pub returns-in-Err : goal.returns-in-Err
returns-in-Err g c = record {
  took = stops_for ⊥ _ g.V.EventSink.takes g.V.EventSink.refuses _ c.args.actor.now _
      (λ no. absurd no)
      (ran_refused g.V.EventSink.takes g.V.EventSink.refuses g.V.EventSink.is_ready
      c.args.rest.now c.loop-at.at c.args.actor.now _ _ c.loop-at.invariant.0
      c.in-Err.ensures.stays c.args.self.now.limit);
  count = search rules;
}

pub returns-in-Ok-eq0 : goal.returns-in-Ok-eq0
returns-in-Ok-eq0 g c = record {
  took = let e = c.in-Ok-eq0.ensures in
      let none : c.in-Ok-eq0.field-0 ≡ 0 = search rules in
      let so = ran_none g.V.EventSink.takes g.V.EventSink.refuses g.V.EventSink.is_ready
      c.args.rest.now c.loop-at.at c.in-Ok-eq0.field-0 c.args.actor.now _ _ none
      c.loop-at.invariant.0 e.stays in
      ran_took c.args.self.now.limit g.V.EventSink.takes g.V.EventSink.refuses Ground Ground
      c.args.rest.now c.loop-at.at c.args.actor.now _ _ so.1 (so.2 c.args.self.now.limit)
      g.K.TextRoom.keeps c.parse_osc_or_byte.new.self c.in_ok-n-in-Ok-eq0.n
      (ground_fresh Ground c.args.rest.now c.loop-at.at so.1)
      (took_under {E = Unit {0}} g.K.TextRoom.keeps
      (Fails g.K.TextRoom.may_fail g.V.EventSink.stops g.row.A.Denot) g.V.EventSink.takes
      g.V.EventSink.refuses
      (Ok c.in_ok-n-in-Ok-eq0.n) Ground _ c.parse_osc_or_byte.new.self _ _
      (e.ground.1 ∙ c.loop-at.invariant.1.1)
      c.in_ok-n-in-Ok-eq0.ensures.0);
  count = search rules;
}

pub returns-in_err-n-in-Ok-eq0 : goal.returns-in_err-n-in-Ok-eq0
returns-in_err-n-in-Ok-eq0 g c = record {
  took = rw (error_of c.from_residual.result c.from_residual.ensures.0).1
      (let e = c.in-Ok-eq0.ensures in
      let none : c.in-Ok-eq0.field-0 ≡ 0 = search rules in
      let so = ran_none g.V.EventSink.takes g.V.EventSink.refuses g.V.EventSink.is_ready
      c.args.rest.now c.loop-at.at c.in-Ok-eq0.field-0 c.args.actor.now _ _ none
      c.loop-at.invariant.0 e.stays in
      ran_ends c.args.self.now.limit g.V.EventSink.takes g.V.EventSink.refuses Ground Ground
      c.args.rest.now c.loop-at.at c.args.actor.now _ _ so.1 (so.2 c.args.self.now.limit)
      (ground_fresh Ground c.args.rest.now c.loop-at.at so.1)
      (took_under {A = g.row.A.Denot} g.K.TextRoom.keeps
      (Fails g.K.TextRoom.may_fail g.V.EventSink.stops g.row.A.Denot) g.V.EventSink.takes
      g.V.EventSink.refuses
      (Err (tt {0})) Ground _ c.parse_osc_or_byte.new.self _ _
      (e.ground.1 ∙ c.loop-at.invariant.1.1)
      c.in_err-n-in-Ok-eq0.ensures.0));
  count = search rules;
}

pub parse_osc_or_byte-requires-clause-ready : goal.parse_osc_or_byte-requires-clause-ready
parse_osc_or_byte-requires-clause-ready g c =
    let e = c.in-Ok-eq0.ensures in
    let none : c.in-Ok-eq0.field-0 ≡ 0 = search rules in
    let so = ran_none g.V.EventSink.takes g.V.EventSink.refuses g.V.EventSink.is_ready
    c.args.rest.now c.loop-at.at c.in-Ok-eq0.field-0 c.args.actor.now _ _ none
    c.loop-at.invariant.0 e.stays in
    ⊎_map so.3 (λ w.
    awaits_under g.V.EventSink.may g.V.EventSink.takes Ground _ _
    (e.ground.1 ∙ c.loop-at.invariant.1.1)
    (cut_rest g.V.EventSink.may g.V.EventSink.takes c.args.rest.now c.loop-at.at
    c.args.self.now.limit Ground Ground c.args.actor.now _
    so.1 (so.2 c.args.self.now.limit) w)) c.requires.ready

pub returns : goal.returns
returns g c = record {
  took = let so = c.loop-at.invariant.0 in (
    subst (Holds g.K.TextRoom.keeps c.args.self.now.limit c.loop-at.self) (sym so.1)
        c.loop-at.invariant.1.0,
    so.2 c.args.self.now.limit,
    ground_fresh Ground c.args.rest.now c.loop-at.at so.1,
  );
  count = search rules;
}
