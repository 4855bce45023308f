use Rattle.std.proofs.Common.{◌≡◌, rules}
use Rattle.esc_frame.proofs.ByteRuns.ManyBytes.{ran_again, ran_none, ran_refused}
use Rattle.esc_frame.proofs.Emits.MayInGround.{may_after}
use Rattle.esc_frame.proofs.runs.printing.print_glyphs.Goals as goal

pub loop-at-preserved : goal.loop-at-preserved
loop-at-preserved g c =
    ran_again g.V.EventSink.takes g.V.EventSink.refuses g.V.EventSink.is_ready c.args.rest.now
    c.loop-at.at
    c.in-Ok.n c.args.actor.now _ _ c.loop-at.invariant
    c.in-Ok.ensures

pub returns-in-Err : goal.returns-in-Err
returns-in-Err g c =
    ran_refused g.V.EventSink.takes g.V.EventSink.refuses g.V.EventSink.is_ready c.args.rest.now
    c.loop-at.at
    c.args.actor.now _ _ c.loop-at.invariant
    c.in-Err.ensures

pub returns-in-Ok-eq0 : goal.returns-in-Ok-eq0
returns-in-Ok-eq0 g c =
    let none : c.in-Ok-eq0.field-0 ≡ 0 = search rules in
    ran_none g.V.EventSink.takes g.V.EventSink.refuses g.V.EventSink.is_ready c.args.rest.now
    c.loop-at.at
    c.in-Ok-eq0.field-0 c.args.actor.now _ _ none
    c.loop-at.invariant
    c.in-Ok-eq0.ensures

pub print_next-requires-clause-ready : goal.print_next-requires-clause-ready
print_next-requires-clause-ready g c =
    may_after g.V.EventSink.is_ready g.V.EventSink.may g.V.EventSink.takes c.args.rest.now
    c.loop-at.at
    c.args.actor.now _ c.loop-at.invariant c.requires
