use Rattle.std.proofs.Common.{◌≡◌, ◌<◌, None, Ok, sym, subst, rules, take}
use Rattle.std.specs.List.{FoldsTo}
use Rattle.esc_frame.specs.Leads.Unfinished.{Ground}
use Rattle.esc_frame.specs.Machine.Calls.{Fails}
use Rattle.esc_frame.specs.Machine.Makes.{MayEmit}
use Rattle.esc_frame.specs.Machine.Moves.{events_all}
use Rattle.esc_frame.proofs.Emits.EventsFold.{stops_for}
use Rattle.esc_frame.proofs.ByteRuns.ShortRuns.{stays_took, took_before}
use Rattle.esc_frame.proofs.machine.Machine.first_in_ground.Goals as goal

pub returns-in-Ok : goal.returns-in-Ok
returns-in-Ok g c =
    let e = c.in-Ok.ensures in
    let some : 0 < c.in-Ok.n = search rules in
    stays_took {E = Unit {0}} g.K.TextRoom.keeps
    (Fails g.K.TextRoom.may_fail g.V.EventSink.stops g.row.A.Denot)
    c.args.self.now.limit g.V.EventSink.takes g.V.EventSink.refuses
    g.V.EventSink.is_ready (Ok c.in-Ok.n) c.args.rest.now
    c.args.self.now c.first_fast.new.self c.args.actor.now c.first_fast.new.actor
    e.taken.ground e.taken.stays some (e.quiet c.args.self.now.limit)

pub returns-in-Ok-eq0 : goal.returns-in-Ok-eq0
returns-in-Ok-eq0 g c =
    let e = c.in-Ok-eq0.ensures.taken in
    let none : c.in-Ok-eq0.field-0 ≡ 0 = search rules in
    let same : c.args.actor.now ≡ c.first_fast.new.actor =
    subst (λ k. FoldsTo g.V.EventSink.takes c.args.actor.now
    (events_all None Ground (take k c.args.rest.now)) c.first_fast.new.actor) none
    (e.stays.2 None) in
    took_before g.K.TextRoom.keeps
    (Fails g.K.TextRoom.may_fail g.V.EventSink.stops g.row.A.Denot)
    g.V.EventSink.takes g.V.EventSink.refuses
    g.V.EventSink.is_ready c.args.rest.now
    c.args.self.now c.first_fast.new.self c.parse_osc_or_byte.new.self
    c.args.actor.now c.first_fast.new.actor c.parse_osc_or_byte.new.actor
    c.parse_osc_or_byte.result
    _ c.args.self.now.limit same e.ground.1 e.ground.1 c.parse_osc_or_byte.ensures

pub returns-in-Err : goal.returns-in-Err
returns-in-Err g c = (
  stops_for ⊥ _ g.V.EventSink.takes g.V.EventSink.refuses _ c.args.actor.now _ (λ no. absurd no)
      (c.in-Err.ensures.taken.stays c.args.self.now.limit),
  tt,
  tt,
)

pub parse_osc_or_byte-requires-clause-ready : goal.parse_osc_or_byte-requires-clause-ready
parse_osc_or_byte-requires-clause-ready g c =
    let e = c.in-Ok-eq0.ensures.taken in
    let none : c.in-Ok-eq0.field-0 ≡ 0 = search rules in
    let same : c.args.actor.now ≡ c.first_fast.new.actor =
    subst (λ k. FoldsTo g.V.EventSink.takes c.args.actor.now
    (events_all None Ground (take k c.args.rest.now)) c.first_fast.new.actor) none
    (e.stays.2 None) in
    subst (λ l. MayEmit g.V.EventSink (events_all l Ground c.args.rest.now)
    c.first_fast.new.actor)
    (sym e.ground.1)
    (subst (λ a. MayEmit g.V.EventSink (events_all c.args.self.now.limit Ground c.args.rest.now) a)
    same c.requires.ready)
