use Rattle.std.proofs.Common.{rules, [], List, sym, subst}
use Rattle.esc_frame.specs.Leads.Unfinished.{InOsc}
use Rattle.esc_frame.specs.Machine.Calls.{Fails, Quietly}
use Rattle.esc_frame.specs.Segments.{Opener, OscUnit}
use Rattle.esc_frame.specs.Segments.Opener.{Long}
use Rattle.std.proofs.Math.Logic.{⊎_map}
use Rattle.esc_frame.proofs.Limit.KeepsLimit.{took_under, awaits_under}
use Rattle.esc_frame.proofs.machine.Machine.keep_body.Goals as goal

pub parse_units-requires-clause-state : goal.parse_units-requires-clause-state
parse_units-requires-clause-state g c =
    let held = c.open.ensures.holds c.args.self.now.limit (Long []) in (held.0, held.2)

pub returns : goal.returns
returns g c = record {
  took = λ o ps none not_borrowed.
      let limit = c.open.new.self.limit in
      took_under g.K.TextRoom.keeps (Fails g.K.TextRoom.may_fail g.V.EventSink.stops g.row.A.Denot)
      g.V.EventSink.takes g.V.EventSink.refuses c.parse_units.result (InOsc o ps) c.args.rest.now
      c.parse_units.new.self c.args.actor.now c.parse_units.new.actor c.open.ensures.limit
      (c.parse_units.ensures.took o ps (subst (g.K.TextRoom.keeps limit c.open.new.self.text)
      (sym none) (c.open.ensures.holds limit (Long [])).1) not_borrowed);
  quiet = subst (λ l. (o : Opener) (ps : List OscUnit)
      → Quietly l c.parse_units.result (InOsc o ps) c.args.rest.now)
      c.open.ensures.limit c.parse_units.ensures.quiet;
  count = search rules;
}

pub parse_units-requires-clause-ready : goal.parse_units-requires-clause-ready
parse_units-requires-clause-ready g c =
    let limit = c.open.new.self.limit in
    ⊎_map (λ r. r) (λ w. (
      w.0,
      w.1,
      subst (g.K.TextRoom.keeps limit c.open.new.self.text) (sym w.2)
          (c.open.ensures.holds limit (Long [])).1,
      awaits_under g.V.EventSink.may g.V.EventSink.takes (InOsc w.0 w.1) c.args.rest.now _
          c.open.ensures.limit w.3,
    )) c.requires.ready
