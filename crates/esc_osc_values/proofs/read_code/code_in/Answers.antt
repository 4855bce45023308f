use Rattle.std.proofs.Common.{sym}
use Rattle.esc_osc_values.proofs.Codes.{code_of_from, code_name_more}
use Rattle.esc_osc_values.proofs.read_code.code_in.Goals as goal

pub returns-then-not-is_empty : goal.returns-then-not-is_empty
returns-then-not-is_empty c =
    rw (code_name_more (λ p. p.now) c.args.first.now c.args.args.now
    (sym c.if-not-is_empty.ensures)) (code_of_from _ _ c.from_code.ensures)
