use Rattle.std.proofs.Common.{rules}
use Rattle.heapless_parser.proofs.InChunks.RunsOfCharacters.{no_run}
use Rattle.heapless_parser.proofs.runs.text_run.Goals as goal

pub returns-then-bytes-lt32 : goal.returns-then-bytes-lt32
returns-then-bytes-lt32 c = record {
  few = search rules;
  run = no_run;
}

pub returns-then-bytes-lt2 : goal.returns-then-bytes-lt2
returns-then-bytes-lt2 c = record {
  few = search rules;
  run = no_run;
}
