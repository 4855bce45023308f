use Rattle.std.proofs.Common.{refl}
use Rattle.control_functions.specs.Escapes.{place}
use Rattle.control_functions.proofs.Escapes.{below}
use Rattle.typed_functions.proofs.escape_table.function_place.Goals as goal

pub returns-clause-place : goal.returns-clause-place
unfolding place
returns-clause-place c = refl

pub returns-clause-below : goal.returns-clause-below
unfolding place
returns-clause-below c = below c.args.function
