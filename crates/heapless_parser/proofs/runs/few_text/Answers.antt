use Rattle.std.proofs.Common.{rules, take}
use Rattle.heapless_parser.proofs.InChunks.RunsOfCharacters.{ascii_is_run}
use Rattle.heapless_parser.proofs.runs.few_text.Goals as goal

pub returns-else-bytes-at-lt128 : goal.returns-else-bytes-at-lt128
returns-else-bytes-at-lt128 c = record {
  few = search rules;
  run =
      ascii_is_run (take c.loop-at.at c.args.bytes.now) c.loop-at.invariant.text;
}

pub returns-else-bytes-at-ge32 : goal.returns-else-bytes-at-ge32
returns-else-bytes-at-ge32 c = record {
  few = search rules;
  run =
      ascii_is_run (take c.loop-at.at c.args.bytes.now) c.loop-at.invariant.text;
}

pub returns-after-loop-at : goal.returns-after-loop-at
returns-after-loop-at c = record {
  few = search rules;
  run =
      ascii_is_run (take c.loop-at.at c.args.bytes.now) c.loop-at.invariant.text;
}
