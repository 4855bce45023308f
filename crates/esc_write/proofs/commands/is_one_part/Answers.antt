use Rattle.std.proofs.Common.{arith}
use Rattle.std.proofs.lemmas.Bool.Decides.{nat_tests}
use Rattle.esc_write.proofs.Verbatim.{one_part, one_part_end}
use Rattle.esc_write.proofs.commands.is_one_part.Goals as goal

pub returns : goal.returns
returns c = record {
  one = λ t. one_part c.args.text.now c.mark_from.result c.mark_from.ensures.at
      (grind (arith, nat_tests, t));
  seen = λ t. grind (
    arith,
    nat_tests,
    one_part_end c.args.text.now c.mark_from.result c.mark_from.ensures.at c.mark_from.ensures.few
        t,
  );
}
