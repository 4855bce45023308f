use Rattle.std.proofs.Common.{rules, refl, false}
use Rattle.std.proofs.Math.Logic.{⊎_map}
use Rattle.esc_frame.specs.declared.machine.State.TheVariants as state
use Rattle.esc_frame.specs.Leads.Unfinished.{InEscape}
use Rattle.esc_frame.proofs.Borrow.BytesAreLent.{one_fresh, one_unborrowed}
use Rattle.esc_frame.proofs.ByteRuns.QuietRuns.{quiet_took, quiet_stops}
use Rattle.esc_frame.proofs.Emits.MayAfterQuietRun.{next_awaited}
use Rattle.esc_frame.proofs.Steps.FailureIsHandedOn.{error_of}
use Rattle.esc_frame.proofs.Steps.StateIsKnown.{known_in}
use Rattle.esc_frame.proofs.machine.Machine.parse_in_escape.Goals as goal

pub returns : goal.returns
returns g c = let limit = c.args.self.now.limit in record {
  took = λ u h.
      let i = known_in g.K.TextRoom.keeps limit c.args.self.now state.Escape u c.requires.state h in
      let v = InEscape i.0 in
      rw i.2 (quiet_took limit g.V.EventSink.takes g.V.EventSink.refuses v v
      c.args.rest.now 0 _ c.args.actor.now _ (refl, refl) c.requires.some c.classify.ensures
      g.K.TextRoom.keeps c.in_escape.new.self (one_fresh v c.args.rest.now refl)
      (c.in_ok-in_escape.ensures.moved c.classify.ensures limit false i.0 i.1.1));
  quiet = search rules;
  count = search rules;
}

pub returns-in_err-in_escape : goal.returns-in_err-in_escape
returns-in_err-in_escape g c = let limit = c.args.self.now.limit in record {
  took = λ u h.
      let i = known_in g.K.TextRoom.keeps limit c.args.self.now state.Escape u c.requires.state h in
      let v = InEscape i.0 in
      rw (i.2, (error_of c.from_residual.result c.from_residual.ensures.0).1)
      (quiet_stops limit g.V.EventSink.takes g.V.EventSink.refuses v v
      c.args.rest.now 0 _ c.args.actor.now _ (refl, refl) c.requires.some c.classify.ensures
      (one_unborrowed v c.args.rest.now refl)
      (c.in_err-in_escape.ensures.moved c.classify.ensures limit false i.0 i.1.1));
  quiet = search rules;
  count = search rules;
}

pub in_escape-requires : goal.in_escape-requires
in_escape-requires g c =
    let limit = c.args.self.now.limit in
    ⊎_map (λ r. r) (λ w.
    let i = known_in g.K.TextRoom.keeps limit c.args.self.now state.Escape w.0 c.requires.state w.1
    in (
      limit,
      i.0,
      i.1.1,
      next_awaited g.V.EventSink.may g.V.EventSink.takes limit w.0 (InEscape i.0)
          c.args.rest.now 0 _ (i.2, refl) c.requires.some c.classify.ensures w.2,
    )) c.requires.ready
