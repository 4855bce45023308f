use Rattle.std.proofs.Common.{◌∙◌}
use Rattle.control_functions.proofs.Controls.{by_code}
use Rattle.control_functions.proofs.c0.C0.is_screen_code.Goals as goal

pub returns : goal.returns
returns c = c.is_screen_code.ensures ∙ by_code c.args.code
