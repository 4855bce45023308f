use Rattle.std.proofs.Common.{rules, sym, subst}
use Rattle.esc_frame.specs.Scans.{is_text_byte}
use Rattle.esc_frame.proofs.ByteRuns.StringRuns.{prefix_passes}
use Rattle.heapless_parser.specs.Runs.{Passes}
use Rattle.heapless_parser.proofs.InChunks.DataBytes.{skip_passes, text_goes_on}
use Rattle.heapless_parser.proofs.InChunks.OneByteLater.{first_taken}
use Rattle.heapless_parser.proofs.data.note_ignored.Goals as goal

pub returns-then-run-gt0 : goal.returns-then-run-gt0
returns-then-run-gt0 c = record {
  few = search rules;
  none = search rules;
  queued = search rules;
  passes = λ some.
      skip_passes is_text_byte text_goes_on c.args.parser.now c.requires.state _
      (prefix_passes c.args.bytes.now c.ascii_run-run.result c.ascii_run-run.ensures.run);
}

pub returns-then-skip_one : goal.returns-then-skip_one
returns-then-skip_one c = record {
  few = search rules;
  none = search rules;
  queued = search rules;
  passes = λ some.
      subst (Passes c.args.parser.now c.skip_one.new.parser)
      (sym (first_taken c.args.bytes.now c.requires.some))
      (c.skip_one.ensures.passes c.if-skip_one.true);
}
