use Rattle.std.proofs.Common.{rules, arith}
use Rattle.esc_frame.proofs.Borrow.LentStrings.{pair_awaited, pair_took, pair_stops, pair_still}
use Rattle.std.proofs.Math.Logic.{⊎_map}
use Rattle.esc_frame.proofs.Steps.FailureIsHandedOn.{error_of}
use Rattle.esc_frame.proofs.machine.Machine.parse_lent_osc_to_c1.Goals as goal

pub returns : goal.returns
returns g c = record {
  took = λ o ps none.
      pair_took c.args.self.now.limit g.V.EventSink.takes g.V.EventSink.refuses o ps c.args.rest.now
      c.args.run
      c.args.actor.now c.end_borrowed_by_pair.new.actor none
      c.requires.run.passes (omega arith) c.requires.run.few c.requires.run.lead
      c.requires.run.control
      g.K.TextRoom.keeps c.end_borrowed_by_pair.new.self c.in_ok-end_borrowed_by_pair.ensures.moved;
  quiet = λ o ps.
      pair_still c.args.self.now.limit o ps c.args.rest.now c.args.run c.requires.run.passes
      c.requires.run.few
      c.requires.run.lead;
  count = search rules;
}

pub returns-in_err-end_borrowed_by_pair : goal.returns-in_err-end_borrowed_by_pair
returns-in_err-end_borrowed_by_pair g c = record {
  took = λ o ps none.
      rw (error_of c.from_residual.result c.from_residual.ensures.0).1
      (pair_stops c.args.self.now.limit g.V.EventSink.takes g.V.EventSink.refuses o ps
      c.args.rest.now
      c.args.run
      c.args.actor.now c.end_borrowed_by_pair.new.actor none
      c.requires.run.passes (omega arith) c.requires.run.few c.requires.run.lead
      c.requires.run.control
      c.in_err-end_borrowed_by_pair.ensures.moved);
  quiet = search rules;
  count = search rules;
}

pub end_borrowed_by_pair-requires : goal.end_borrowed_by_pair-requires
end_borrowed_by_pair-requires g c =
    ⊎_map (λ r. r) (λ w.
    pair_awaited c.args.self.now.limit g.V.EventSink.takes g.V.EventSink.refuses w.0 w.1
    c.args.rest.now
    c.args.run _
    c.args.actor.now w.2 c.requires.run.passes (omega arith) c.requires.run.few c.requires.run.lead
    c.requires.run.control g.V.EventSink.may w.3) c.requires.ready
