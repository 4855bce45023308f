use Rattle.std.proofs.Common.{rules, ◌∙◌, ap, sym, arith}
use Rattle.esc_frame.specs.Classes.{is_breaker}
use Rattle.esc_frame.proofs.Borrow.KeptStrings.{apc_unended, apc_unclosed}
use Rattle.esc_frame.proofs.ByteRuns.StringRuns.{prefix_passes}
use Rattle.esc_frame.proofs.machine.Machine.parse_in_apc.Goals as goal

pub returns-then-run-rest : goal.returns-then-run-rest
returns-then-run-rest g c = record {
  took = λ o d k.
      c.keep_apc.ensures.took o d k (apc_unended o d c.args.rest.now c.ascii_run-run.result
      c.ascii_run-run.ensures.run (omega arith));
  quiet = c.keep_apc.ensures.quiet;
  count = c.keep_apc.ensures.count;
}

pub returns-else-is_breaker : goal.returns-else-is_breaker
returns-else-is_breaker g c = record {
  took = λ o d k.
      c.keep_apc-else-is_breaker.ensures.took o d k
      (apc_unclosed o d c.args.rest.now c.ascii_run-run.result c.ascii_run-run.ensures.run
      (omega arith)
      (ap is_breaker (sym c.classify.ensures) ∙ sym c.is_breaker.ensures
      ∙ c.if-is_breaker.false));
  quiet = c.keep_apc-else-is_breaker.ensures.quiet;
  count = c.keep_apc-else-is_breaker.ensures.count;
}

pub returns-then-not-is_new : goal.returns-then-not-is_new
returns-then-not-is_new g c = record {
  took = search rules;
  quiet = c.keep_apc-then-not-is_new.ensures.quiet;
  count = c.keep_apc-then-not-is_new.ensures.count;
}

pub keep_apc-requires-clause-run : goal.keep_apc-requires-clause-run
keep_apc-requires-clause-run g c = record {
  some = c.requires.some;
  few = omega arith;
  passes = prefix_passes c.args.rest.now c.ascii_run-run.result c.ascii_run-run.ensures.run;
}

pub keep_apc-requires-then-not-is_new-clause-run : goal.keep_apc-requires-then-not-is_new-clause-run
keep_apc-requires-then-not-is_new-clause-run g c = record {
  some = c.requires.some;
  few = omega arith;
  passes = prefix_passes c.args.rest.now c.ascii_run-run.result c.ascii_run-run.ensures.run;
}

pub keep_apc-requires-else-is_breaker-clause-run : goal.keep_apc-requires-else-is_breaker-clause-run
keep_apc-requires-else-is_breaker-clause-run g c = record {
  some = c.requires.some;
  few = omega arith;
  passes = prefix_passes c.args.rest.now c.ascii_run-run.result c.ascii_run-run.ensures.run;
}

pub parse_lent_apc-requires-clause-run : goal.parse_lent_apc-requires-clause-run
parse_lent_apc-requires-clause-run g c = record {
  few = omega arith;
  passes = prefix_passes c.args.rest.now c.ascii_run-run.result c.ascii_run-run.ensures.run;
  ends = ap is_breaker (sym c.classify.ensures) ∙ sym c.is_breaker.ensures ∙ c.if-is_breaker.true;
}
