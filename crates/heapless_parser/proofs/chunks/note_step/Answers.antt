use Rattle.std.proofs.Common.{rules, length, refl, sym, subst}
use Rattle.heapless_parser.specs.Runs.{Steps}
use Rattle.heapless_parser.proofs.InChunks.OneByteLater.{first_taken}
use Rattle.heapless_parser.proofs.chunks.note_step.Goals as goal

pub returns-then-note_byte-clause-takes : goal.returns-then-note_byte-clause-takes
returns-then-note_byte-clause-takes c = record {
  few = search rules;
  none = search rules;
  queued = search rules;
  steps = λ some u h.
      let m = c.args.memory.now in
      subst (Steps c.args.parser.now c.note_byte.new.parser c.note_byte.new.event c.args.out.now m
      m)
      (sym (first_taken c.args.bytes.now c.requires.some))
      (λ v k. c.note_byte.ensures.takes.notes c.if-note_byte.true c.args.out.now (length m) v m refl
      k) u h;
}
