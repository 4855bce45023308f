use Rattle.std.proofs.Common.{rules}
use Rattle.heapless_parser.proofs.InChunks.RunsOfCharacters.{prefix_is_run}
use Rattle.heapless_parser.proofs.runs.ascii_text.Goals as goal

pub returns : goal.returns
returns c = record {
  few = search rules;
  run = prefix_is_run c.args.bytes.now c.ascii_run.result c.ascii_run.ensures.run;
}
