use Rattle.std.proofs.lemmas.Result.{on_ok_weaker}
use Rattle.flat_values.proofs.Images.{one_more}
use Rattle.flat_values.specs.Images.{compose_numbers, verbosity_numbers}
use Rattle.flat_values.proofs.append_image.append_composed.Goals as goal

pub returns-clause-ok : goal.returns-clause-ok
returns-clause-ok c =
    on_ok_weaker c.append_verbosity.result (one_more c.args.fields.now _ _
    (compose_numbers c.args.frame.now) (verbosity_numbers c.args.verbosity)
    c.in_ok-append_compose.ensures.ok) c.append_verbosity.ensures.ok
