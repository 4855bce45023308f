use Rattle.std.proofs.Common.{take, subst, sym, arith}
use Rattle.esc_frame.specs.Scans.{IsRun, is_text_byte}
use Rattle.esc_frame.proofs.ByteRuns.ManyBytes.{run_passes, some_run, text_given, text_stops}
use Rattle.esc_frame.proofs.Emits.MayInGround.{may_text}
use Rattle.esc_frame.proofs.runs.printing.print_text.Goals as goal

pub returns-in-Ok : goal.returns-in-Ok
returns-in-Ok g c =
    let run = text_given g.V.EventSink.takes g.V.EventSink.refuses c.args.rest.now _
    c.args.actor.now _
    c.ascii_run-run.ensures.run c.in-Ok.ensures.emitted in
    (c.ascii_run-run.ensures.few, run.0, run.1, c.in-Ok.ensures.ready)

pub returns-in-Err : goal.returns-in-Err
returns-in-Err g c =
    text_stops g.V.EventSink.takes g.V.EventSink.refuses c.args.rest.now _ c.args.actor.now _ _
    c.ascii_run-run.ensures.run c.in-Err.ensures.emitted

pub print_text-requires-clause-run : goal.print_text-requires-clause-run
print_text-requires-clause-run g c =
    subst (λ k. IsRun is_text_byte (take k c.args.rest.now)) (sym c.ascii_run-run.ensures.run)
    (record {
      some = some_run c.args.rest.now c.requires.starts.some c.requires.starts.low
          (omega (arith, c.requires.starts.high));
      all = run_passes is_text_byte c.args.rest.now;
    })

pub print_text-requires-clause-ready : goal.print_text-requires-clause-ready
print_text-requires-clause-ready g c =
    may_text g.V.EventSink.is_ready g.V.EventSink.may g.V.EventSink.takes c.args.rest.now _
    c.args.actor.now c.ascii_run-run.ensures.run c.requires.ready
