use Rattle.std.proofs.Common.{rules, take, length, ap, ◌∙◌}
use Rattle.heapless_parser.specs.States.{lower, upper}
use Rattle.heapless_parser.specs.Emitted.{queued_of, is_run}
use Rattle.heapless_parser.proofs.InChunks.ControlsAhead.{event_emits}
use Rattle.heapless_parser.proofs.InChunks.SeveralStepsAreOne.{at_first}
use Rattle.heapless_parser.proofs.next.next_at_escape.Goals as goal

pub returns-then-taken-gt0-clause-holds : goal.returns-then-taken-gt0-clause-holds
returns-then-taken-gt0-clause-holds c = record {
  few = search rules;
  within = search rules;
  utf8 = search rules;
  given = λ s es h ne.
      let p = c.args.parser.now in
      let bs = c.args.bytes.now in
      let n = c.note_csi-taken.result in
      let e = c.note_csi-taken.new.event in
      let memory = lower c.args.buffer.now in
      let out = upper c.args.buffer.now in
      let csi = c.note_csi-taken.ensures in
      let some = c.if-taken-gt0.true in
      let plain = c.requires.plain in
      at_first s bs n es p memory e out (csi.notes.within.2)
      (ap (λ k. queued_of k p.queued_value) plain.1)
      (event_emits p e (take n bs) plain.2 plain.3 (ap is_run (csi.some some).0)
      (csi.notes.emits some) out
      (length memory) bs) h;
  all = search rules;
  moves = search rules;
  limited = search rules;
  failed = search rules;
  again = search rules;
}
