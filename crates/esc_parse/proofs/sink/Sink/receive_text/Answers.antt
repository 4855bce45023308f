use Rattle.std.proofs.Common.{arith, subst}
use Rattle.esc_parse.proofs.Runs.RunsOfText.{stops_next, takes_next}
use Rattle.esc_frame.proofs.Emits.MayAfterSome.{get_each}
use Rattle.std.proofs.Common.{◌⊎◌, sym}
use Rattle.esc_parse.proofs.sink.Sink.receive_text.Goals as goal

pub returns-in-Err-clause-given : goal.returns-in-Err-clause-given
returns-in-Err-clause-given g c =
    let at = c.loop-b in
    stops_next g.T.ActionShape.print g.Self.Sink.takes g.Self.Sink.refuses c.args.text.now
    at.b-index
    (omega arith) c.args.self.now _ _ at.invariant.1
    (subst (λ x. g.Self.Sink.refuses at.self x c.receive.new.self) c.print.ensures
    c.in-Err.ensures.given)

pub loop-b-preserved : goal.loop-b-preserved
loop-b-preserved g c =
    let at = c.loop-b in (
      (λ r. c.in-Ok.ensures.ready (at.invariant.0 r)),
      takes_next g.T.ActionShape.print g.Self.Sink.takes g.Self.Sink.refuses c.args.text.now
          at.b-index
          (omega arith) c.args.self.now _ _ at.invariant.1
          (subst (λ x. g.Self.Sink.takes at.self x c.receive.new.self) c.print.ensures
          c.in-Ok.ensures.given),
    )

pub receive-requires : goal.receive-requires
receive-requires g c =
    let at = c.loop-b in
    subst (λ x. g.Self.Sink.is_ready at.self ⊎ g.Self.Sink.may at.self x) (sym c.print.ensures)
    (get_each g.Self.Sink.is_ready g.Self.Sink.may g.Self.Sink.takes g.T.ActionShape.print
    c.args.text.now at.b-index (omega arith)
    c.args.self.now at.self at.invariant.0 at.invariant.1 c.requires.ready)
