use Rattle.std.proofs.Common.{rules, length, refl, ap}
use Rattle.heapless_parser.specs.States.{lower, upper}
use Rattle.heapless_parser.specs.Emitted.{queued_of}
use Rattle.heapless_parser.proofs.InChunks.SeveralStepsAreOne.{at_first}
use Rattle.heapless_parser.proofs.next.next.Goals as goal

pub returns-then-taken-gt0-clause-holds : goal.returns-then-taken-gt0-clause-holds
returns-then-taken-gt0-clause-holds c = record {
  few = search rules;
  within = search rules;
  utf8 = search rules;
  given = λ s es h ne.
      let p = c.args.parser.now in
      let memory = lower c.args.buffer.now in
      let out = upper c.args.buffer.now in
      let some = c.if-taken-gt0.true in
      let plain = c.if-is_idle.ensures refl in
      let note = c.note_plain-taken in
      at_first s c.args.bytes.now note.result es p memory note.new.event out
      (note.ensures.some some).4 (ap (λ k. queued_of k p.queued_value) plain.1)
      (note.ensures.emits some p out (length memory) plain.2 plain.3) h;
  all = search rules;
  moves = search rules;
  limited = search rules;
  failed = search rules;
  again = search rules;
}
