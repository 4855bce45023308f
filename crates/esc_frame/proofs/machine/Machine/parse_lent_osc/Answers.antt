use Rattle.std.proofs.Common.{rules}
use Rattle.esc_frame.proofs.Borrow.LentStrings.{borrowed_awaited, borrowed_took, borrowed_stops}
use Rattle.esc_frame.proofs.Emits.StopsAtFirstEvent.{text_still}
use Rattle.std.proofs.Math.Logic.{⊎_map}
use Rattle.esc_frame.proofs.Steps.FailureIsHandedOn.{error_of}
use Rattle.esc_frame.proofs.machine.Machine.parse_lent_osc.Goals as goal

pub returns : goal.returns
returns g c = record {
  took = λ o ps none.
      borrowed_took c.args.self.now.limit g.V.EventSink.takes g.V.EventSink.refuses o ps
      c.args.rest.now
      c.args.run
      c.args.actor.now c.end_borrowed.new.actor none c.requires.run.passes
      c.requires.run.few c.requires.run.ends g.K.TextRoom.keeps
      c.end_borrowed.new.self
      c.in_ok-end_borrowed.ensures.moved;
  quiet = λ o ps.
      text_still c.args.self.now.limit o ps c.args.rest.now c.args.run (λ any.
      (c.requires.run.passes.2 any o ps).1);
  count = search rules;
}

pub returns-in_err-end_borrowed : goal.returns-in_err-end_borrowed
returns-in_err-end_borrowed g c = record {
  took = λ o ps none.
      rw (error_of c.from_residual.result c.from_residual.ensures.0).1
      (borrowed_stops c.args.self.now.limit g.V.EventSink.takes g.V.EventSink.refuses o ps
      c.args.rest.now
      c.args.run
      c.args.actor.now c.end_borrowed.new.actor none c.requires.run.passes
      c.requires.run.few c.requires.run.ends c.in_err-end_borrowed.ensures.moved);
  quiet = search rules;
  count = search rules;
}

pub end_borrowed-requires : goal.end_borrowed-requires
end_borrowed-requires g c =
    ⊎_map (λ r. r) (λ w.
    borrowed_awaited c.args.self.now.limit g.V.EventSink.takes g.V.EventSink.refuses w.0 w.1
    c.args.rest.now
    c.args.run _ c.args.actor.now w.2 c.requires.run.passes c.requires.run.few c.requires.run.ends
    g.V.EventSink.may w.3) c.requires.ready
