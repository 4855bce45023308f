use Rattle.std.proofs.Common.{rules, false}
use Rattle.esc_frame.proofs.Borrow.LentStrings.{borrowed_apc_awaited, borrowed_apc_took, borrowed_apc_stops}
use Rattle.esc_frame.proofs.Emits.StopsAtFirstEvent.{apc_end_still}
use Rattle.std.proofs.Math.Logic.{⊎_map}
use Rattle.esc_frame.proofs.Steps.FailureIsHandedOn.{error_of}
use Rattle.esc_frame.proofs.machine.Machine.parse_lent_apc.Goals as goal

pub returns : goal.returns
returns g c = record {
  took = λ o d none.
      borrowed_apc_took c.args.self.now.limit g.V.EventSink.takes g.V.EventSink.refuses o d
      c.args.rest.now
      c.args.run
      c.args.actor.now c.end_borrowed_apc.new.actor none
      c.requires.run.passes c.requires.run.few c.requires.run.ends g.K.TextRoom.keeps
      c.end_borrowed_apc.new.self (c.in_ok-end_borrowed_apc.ensures.moved false);
  quiet = λ o d. apc_end_still c.args.self.now.limit o d c.args.rest.now c.args.run
      c.requires.run.passes;
  count = search rules;
}

pub returns-in_err-end_borrowed_apc : goal.returns-in_err-end_borrowed_apc
returns-in_err-end_borrowed_apc g c = record {
  took = λ o d none.
      rw (error_of c.from_residual.result c.from_residual.ensures.0).1
      (borrowed_apc_stops c.args.self.now.limit g.V.EventSink.takes g.V.EventSink.refuses o d
      c.args.rest.now
      c.args.run
      c.args.actor.now c.end_borrowed_apc.new.actor none
      c.requires.run.passes c.requires.run.few c.requires.run.ends
      (c.in_err-end_borrowed_apc.ensures.moved false));
  quiet = search rules;
  count = search rules;
}

pub end_borrowed_apc-requires : goal.end_borrowed_apc-requires
end_borrowed_apc-requires g c =
    ⊎_map (λ r. r) (λ w.
    borrowed_apc_awaited c.args.self.now.limit g.V.EventSink.takes g.V.EventSink.refuses w.0 w.1
    c.args.rest.now
    c.args.run _ c.args.actor.now w.2 c.requires.run.passes c.requires.run.few c.requires.run.ends
    g.V.EventSink.may w.3) c.requires.ready
