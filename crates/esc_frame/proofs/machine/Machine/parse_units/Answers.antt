use Rattle.std.proofs.Common.{rules, refl, inl, subst}
use Rattle.std.proofs.Math.Logic.{⊎_map}
use Rattle.esc_frame.specs.Leads.Unfinished.{InOsc}
use Rattle.esc_frame.proofs.ByteRuns.QuietRuns.{own_stops}
use Rattle.esc_frame.proofs.ByteRuns.StringRuns.{run_text}
use Rattle.esc_frame.proofs.Emits.StopsAtFirstEvent.{osc_run, text_still}
use Rattle.esc_frame.proofs.Steps.FailureIsHandedOn.{error_of}
use Rattle.esc_frame.proofs.machine.Machine.parse_units.Goals as goal

pub returns : goal.returns
returns g c = let run = c.requires.run.passes in let limit = c.args.self.now.limit in record {
  took = λ o ps k not_borrowed.
      c.step_after.ensures.took (InOsc o ps)
      (rw (run.2 limit o ps).0 (
        c.requires.state.0,
        subst (g.K.TextRoom.keeps limit c.push.new.self) (run_text ps run)
            (c.in_ok-push.ensures.ok _ k),
        c.requires.state.1,
      )) (osc_run limit o ps c.args.rest.now c.args.run run not_borrowed);
  quiet = λ o ps.
      c.step_after.ensures.quiet (InOsc o ps)
      (text_still limit o ps c.args.rest.now c.args.run (λ any. (run.2 any o ps).1));
  count = search rules;
}

pub returns-in_err-push : goal.returns-in_err-push
returns-in_err-push g c = record {
  took = λ o ps k not_borrowed.
      rw (error_of c.from_residual.result c.from_residual.ensures.0).1
      (own_stops c.args.self.now.limit g.V.EventSink.takes g.V.EventSink.refuses (InOsc o ps)
      c.args.rest.now
      c.args.actor.now
      c.requires.run.some refl not_borrowed (inl c.in_err-push.ensures.refused));
  quiet = search rules;
  count = search rules;
}

pub step_after-requires-clause-ready : goal.step_after-requires-clause-ready
step_after-requires-clause-ready g c =
    let run = c.requires.run.passes in
    let limit = c.args.self.now.limit in
    ⊎_map (λ r. r) (λ w.
    let q = run.2 limit w.0 w.1 in (
      InOsc w.0 w.1,
      rw q.0 (
        c.requires.state.0,
        subst (g.K.TextRoom.keeps limit c.push.new.self) (run_text w.1 run)
            (c.in_ok-push.ensures.ok _ w.2),
        c.requires.state.1,
      ),
      q.1,
      w.3,
    )) c.requires.ready
