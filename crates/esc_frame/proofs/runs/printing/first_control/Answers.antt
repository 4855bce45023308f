use Rattle.std.proofs.Common.{◌∙◌, sym, arith}
use Rattle.std.proofs.lemmas.Bool.{eqb-false}
use Rattle.esc_frame.proofs.ByteRuns.ManyBytes.{one_control}
use Rattle.esc_frame.proofs.runs.printing.first_control.Goals as goal

pub returns-then-rest-ne27-clause-executes : goal.returns-then-rest-ne27-clause-executes
returns-then-rest-ne27-clause-executes c =
    let some = eqb-false _ _ (sym c.is_empty.ensures ∙ c.if-is_empty.false) in
    one_control c.args.rest.now (grind (arith, some)) (omega arith) c.if-rest-ne27.true
