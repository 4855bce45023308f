use Rattle.std.proofs.Common.{◌∙◌, sym, arith}
use Rattle.esc_sixel.proofs.Runs.OneByteMoreOfRun.{param_next, semicolons_next}
use Rattle.esc_sixel.proofs.parameters.Parameters.separator.Goals as goal

pub returns-then-self-lt5 : goal.returns-then-self-lt5
returns-then-self-lt5 c = λ run p. record {
  values = λ k small. p.values k small ∙ sym (param_next run k);
  count = omega (arith, p.count, semicolons_next run, c.if-self-lt5.true);
}

pub returns-else-self-lt5 : goal.returns-else-self-lt5
returns-else-self-lt5 c = λ run p. record {
  values = λ k small. p.values k small ∙ sym (param_next run k);
  count = omega (arith, p.count, semicolons_next run, c.if-self-lt5.false);
}
