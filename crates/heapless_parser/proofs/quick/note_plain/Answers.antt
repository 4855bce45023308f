use Rattle.std.proofs.Common.{rules, take, ap}
use Rattle.heapless_parser.specs.Emitted.{is_run}
use Rattle.heapless_parser.proofs.InChunks.ControlsAhead.{control_emits, event_emits, run_emits}
use Rattle.heapless_parser.proofs.quick.note_plain.Goals as goal

pub returns-then-bytes-lt32 : goal.returns-then-bytes-lt32
returns-then-bytes-lt32 c = record {
  few = search rules;
  none = search rules;
  some = search rules;
  text = search rules;
  control = search rules;
  emits = λ some p out limit zero none.
      let bs = c.args.bytes.now in
      let e = c.put_plain.new.event in
      let k = c.put_plain.ensures.kind in
      event_emits p e (take 1 bs) zero none (ap is_run k.0)
      (control_emits e bs c.requires.some c.if-bytes-lt32.true c.requires.other k.0 k.1) out limit
      bs;
}

pub returns-then-run-gt0 : goal.returns-then-run-gt0
returns-then-run-gt0 c = record {
  few = search rules;
  none = search rules;
  some = search rules;
  text = search rules;
  control = search rules;
  emits = λ some p out limit zero none.
      let put = c.put_plain-then-run-gt0 in
      run_emits p put.new.event c.args.bytes.now c.plain_text-run.result zero none
      put.ensures.kind.0
      put.ensures.length c.plain_text-run.ensures.run out limit;
}
