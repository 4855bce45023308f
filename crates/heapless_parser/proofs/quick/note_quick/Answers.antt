use Rattle.std.proofs.Common.{rules, sym}
use Rattle.esc_frame.proofs.ByteRuns.ManyBytes.{one_control}
use Rattle.heapless_parser.proofs.quick.note_quick.Goals as goal

pub returns-else-bytes-eq27 : goal.returns-else-bytes-eq27
returns-else-bytes-eq27 c = record {
  notes = record {
    few = search rules;
    none = search rules;
    within = search rules;
    emits = λ some.
        let one = one_control c.args.bytes.now c.requires.some c.if-bytes-ge32.false
        c.if-bytes-eq27.false in (one.0, λ limit out. sym (one.1 limit));
  };
  some = search rules;
  count = search rules;
  ground = search rules;
}
