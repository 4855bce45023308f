use Rattle.control_functions.proofs.Controls.{in_row}
use Rattle.control_functions.proofs.c0.C0.of.Goals as goal

pub returns-then-code-lt32 : goal.returns-then-code-lt32
returns-then-code-lt32 c = in_row c.args.code _ c.if-code-lt32.true
