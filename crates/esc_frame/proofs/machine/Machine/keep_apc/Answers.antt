use Rattle.std.proofs.Common.{rules, refl, inl, sym, subst, take}
use Rattle.std.proofs.Math.Logic.{⊎_map}
use Rattle.esc_frame.specs.Leads.Unfinished.{InApc}
use Rattle.esc_frame.proofs.ByteRuns.QuietRuns.{own_stops}
use Rattle.esc_frame.proofs.ByteRuns.StringRuns.{apc_text, apc_kept}
use Rattle.esc_frame.proofs.Emits.StopsAtFirstEvent.{apc_run, apc_end_still}
use Rattle.esc_frame.proofs.Steps.FailureIsHandedOn.{error_of}
use Rattle.esc_frame.proofs.machine.Machine.keep_apc.Goals as goal

pub returns : goal.returns
returns g c =
    let limit = c.args.self.now.limit in
    let rest = c.args.rest.now in
    let run = c.args.run in
    let passes = c.requires.run.passes in record {
      took = λ o d k not_borrowed.
          c.step_after.ensures.took (InApc o d)
          (rw (apc_text limit o d (take run rest) passes).0 (
            c.requires.state,
            subst (g.K.TextRoom.keeps limit c.push.new.self)
                (sym (apc_kept d (take run rest) passes)) (c.in_ok-push.ensures.ok _ k),
          )) (apc_run limit o d rest run passes not_borrowed);
      quiet = λ o d.
          c.step_after.ensures.quiet (InApc o d) (apc_end_still limit o d rest run passes);
      count = search rules;
    }

pub returns-in_err-push : goal.returns-in_err-push
returns-in_err-push g c = record {
  took = λ o d k not_borrowed.
      rw (error_of c.from_residual.result c.from_residual.ensures.0).1
      (own_stops c.args.self.now.limit g.V.EventSink.takes g.V.EventSink.refuses (InApc o d)
      c.args.rest.now
      c.args.actor.now
      c.requires.run.some refl not_borrowed (inl c.in_err-push.ensures.refused));
  quiet = search rules;
  count = search rules;
}

pub step_after-requires-clause-ready : goal.step_after-requires-clause-ready
step_after-requires-clause-ready g c =
    let limit = c.args.self.now.limit in
    let xs = take c.args.run c.args.rest.now in
    let passes = c.requires.run.passes in
    ⊎_map (λ r. r) (λ w.
    let q = apc_text limit w.0 w.1 xs passes in (
      InApc w.0 w.1,
      rw q.0 (
        c.requires.state,
        subst (g.K.TextRoom.keeps limit c.push.new.self) (sym (apc_kept w.1 xs passes))
            (c.in_ok-push.ensures.ok _ w.2),
      ),
      q.1,
      w.3,
    )) c.requires.ready
