use Rattle.control_functions.proofs.PrivateModes.{sheet}
use Rattle.control_functions.proofs.Tables.{row_key}
use Rattle.control_functions.proofs.private_mode.PrivateMode.number.Goals as goal

pub returns : goal.returns
returns c = rw c.place.ensures.place (row_key sheet c.args.self _)
