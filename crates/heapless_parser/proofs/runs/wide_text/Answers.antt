use Rattle.std.proofs.Common.{rules, arith}
use Rattle.heapless_parser.proofs.InChunks.RunsOfCharacters.{free_is_run, no_run}
use Rattle.heapless_parser.proofs.runs.wide_text.Goals as goal

pub returns-in-Ok : goal.returns-in-Ok
returns-in-Ok c = record {
  few = search rules;
  run =
      free_is_run c.args.bytes.now c.before_cut-run.result
      (λ i l. c.free_run-free.ensures.run i (omega (arith, l, c.before_cut-run.ensures)))
      c.in-Ok.ensures.1;
}

pub returns-in-Err : goal.returns-in-Err
returns-in-Err c = record {
  few = search rules;
  run = no_run;
}
