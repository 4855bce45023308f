use Rattle.typed_functions.proofs.Escaped.{function_at}
use Rattle.typed_functions.proofs.escape.Escape.function.Goals as goal

pub returns : goal.returns
returns c = rw c.place.ensures.place (function_at c.args.self _)
