use Rattle.std.proofs.lemmas.Result.{on_ok_weaker}
use Rattle.flat_values.proofs.Images.{two_more}
use Rattle.flat_values.specs.Images.{id_numbers, placement_numbers, verbosity_numbers}
use Rattle.flat_values.proofs.append_image.append_display.Goals as goal

pub returns-clause-ok : goal.returns-clause-ok
returns-clause-ok c =
    on_ok_weaker c.append_verbosity.result (two_more c.args.fields.now _ _ _
    (id_numbers c.args.image_id c.args.image_number) (placement_numbers c.args.placement.now)
    (verbosity_numbers c.args.verbosity) c.in_ok-append_ids.ensures.ok
    c.in_ok-append_placement.ensures.ok) c.append_verbosity.ensures.ok
