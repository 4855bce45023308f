use Rattle.std.proofs.Common.{rules}
use Rattle.esc_frame.specs.Leads.Unfinished.{Ground}
use Rattle.esc_frame.proofs.ByteRuns.ClearRuns.{str_events, str_clear, str_given, str_stops}
use Rattle.esc_frame.proofs.Emits.MayInGround.{may_first}
use Rattle.esc_frame.proofs.runs.printing.print_long.Goals as goal

pub print_str-requires-clause-run : goal.print_str-requires-clause-run
print_str-requires-clause-run g c = record {
  some = search rules;
  all = str_clear g.V.EventSink.takes g.V.EventSink.refuses c.args.rest.now c.in-Ok.text.now
      c.free_run-run.result c.args.actor.now c.args.actor.now
      c.free_run-run.ensures.run c.in-Ok.ensures.0 c.in-Ok.ensures.1;
}

pub returns-in-Ok-print_str : goal.returns-in-Ok-print_str
returns-in-Ok-print_str g c =
    let run = str_given g.V.EventSink.takes g.V.EventSink.refuses c.args.rest.now c.in-Ok.text.now
    c.free_run-run.result c.args.actor.now c.print_str.new.self
    c.free_run-run.ensures.run c.in-Ok.ensures.0 c.in-Ok.ensures.1
    c.in-Ok-print_str.ensures.emitted in
    (c.free_run-run.ensures.few, run.0, run.1, c.in-Ok-print_str.ensures.ready)

pub returns-in-Err-print_str : goal.returns-in-Err-print_str
returns-in-Err-print_str g c =
    str_stops g.V.EventSink.takes g.V.EventSink.refuses c.args.rest.now c.in-Ok.text.now
    c.free_run-run.result c.args.actor.now c.print_str.new.self
    c.free_run-run.ensures.run c.in-Ok.ensures.0 c.in-Ok.ensures.1 _
    c.in-Err-print_str.ensures.emitted

pub print_str-requires-clause-ready : goal.print_str-requires-clause-ready
print_str-requires-clause-ready g c =
    may_first g.V.EventSink.is_ready g.V.EventSink.may g.V.EventSink.takes c.args.rest.now
    c.free_run-run.result Ground _ c.args.actor.now
    (str_events g.V.EventSink.takes g.V.EventSink.refuses c.args.rest.now c.in-Ok.text.now
    c.free_run-run.result c.args.actor.now c.args.actor.now
    c.free_run-run.ensures.run c.in-Ok.ensures.0 c.in-Ok.ensures.1) c.requires
