use Rattle.std.proofs.Common.{◌∙◌, ap, arith, rules, sym}
use Rattle.esc_frame.specs.Machine.Moves.{ends_osc}
use Rattle.esc_frame.proofs.Borrow.KeptStrings.{unended, unclosed}
use Rattle.esc_frame.proofs.machine.Machine.parse_osc_text.Goals as goal

pub returns-then-run-rest : goal.returns-then-run-rest
returns-then-run-rest g c = record {
  took = λ o ps none.
      c.keep_body.ensures.took o ps none (unended o ps c.args.rest.now c.units_run-run.result
      c.units_run-run.ensures.run (omega arith));
  quiet = c.keep_body.ensures.quiet;
  count = c.keep_body.ensures.count;
}

pub returns-else-is_pair_at : goal.returns-else-is_pair_at
returns-else-is_pair_at g c = record {
  took = λ o ps none.
      c.keep_body-else-is_pair_at.ensures.took o ps none
      (unclosed o ps c.args.rest.now c.units_run-run.result c.units_run-run.ensures.run (omega
      arith)
      (c.units_run-run.ensures.stops (omega arith)) _
      c.classify.ensures (sym c.ends_osc.ensures ∙ c.if-ends_osc.false)
      (c.is_pair_at.ensures.none c.if-is_pair_at.false));
  quiet = c.keep_body-else-is_pair_at.ensures.quiet;
  count = c.keep_body-else-is_pair_at.ensures.count;
}

pub keep_body-requires-clause-run : goal.keep_body-requires-clause-run
keep_body-requires-clause-run g c = record {
  some = c.requires.some;
  few = omega arith;
  passes = c.units_run-run.ensures.run;
}

pub keep_body-requires-else-is_pair_at-clause-run
    : goal.keep_body-requires-else-is_pair_at-clause-run
keep_body-requires-else-is_pair_at-clause-run g c = record {
  some = c.requires.some;
  few = omega arith;
  passes = c.units_run-run.ensures.run;
}

pub parse_lent_osc-requires-clause-run : goal.parse_lent_osc-requires-clause-run
parse_lent_osc-requires-clause-run g c = record {
  few = omega arith;
  passes = c.units_run-run.ensures.run;
  ends = ap ends_osc (sym c.classify.ensures) ∙ sym c.ends_osc.ensures ∙ c.if-ends_osc.true;
}

pub parse_lent_osc_to_c1-requires-clause-run : goal.parse_lent_osc_to_c1-requires-clause-run
parse_lent_osc_to_c1-requires-clause-run g c = record {
  few = search rules;
  passes = c.units_run-run.ensures.run;
  lead = search rules;
  control = search rules;
}
