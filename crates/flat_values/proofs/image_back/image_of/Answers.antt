use Rattle.flat_values.proofs.ImagesWhole.{no_image}
use Rattle.flat_values.proofs.image_back.image_of.Goals as goal

pub returns-clause-none : goal.returns-clause-none
returns-clause-none c =
    no_image c.args.kind (c.args.rows.now, c.args.text.now) c.in_ok-image.image
    c.has_image-has.result c.kept_some.result c.in_ok-image.ensures.ok
    c.has_image-has.ensures.has c.kept_some.ensures
