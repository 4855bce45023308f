use Rattle.std.proofs.Common.{◌∙◌, sym, arith}
use Rattle.std.proofs.lemmas.Bool.{eqb-false}
use Rattle.std.proofs.lemmas.Bool.Decides.{nat_tests}
use Rattle.esc_frame.proofs.ByteRuns.ManyBytes.{one_text}
use Rattle.esc_frame.proofs.runs.printing.first_char.Goals as goal

pub returns-then-rest-lt128-clause-prints : goal.returns-then-rest-lt128-clause-prints
returns-then-rest-lt128-clause-prints c =
    let some = eqb-false _ _ (sym c.is_empty.ensures ∙ c.if-is_empty.false) in
    one_text c.args.rest.now (grind (arith, some)) (grind (arith, nat_tests))
