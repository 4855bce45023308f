use Rattle.std.proofs.Common.{◌∙◌}
use Rattle.control_functions.proofs.PrivateModes.{sheet}
use Rattle.control_functions.proofs.Tables.{row_screen}
use Rattle.control_functions.proofs.private_mode.PrivateMode.changes_screen.Goals as goal

pub returns : goal.returns
returns c = c.is_screen.ensures ∙ rw c.place.ensures.place (row_screen sheet c.args.self _)
