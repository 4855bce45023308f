use Rattle.typed_functions.proofs.Escaped.{escape_at}
use Rattle.typed_functions.proofs.escape.Escape.of_function.Goals as goal

pub returns : goal.returns
returns c = rw c.function_place.ensures.place (escape_at c.args.function _)
