use Rattle.std.proofs.Common.{arith, sym}
use Rattle.std.proofs.lemmas.List.{get_or_past}
use Rattle.flat_values.specs.declared.image_forms.ImageForm.TheVariants.{Nothing}
use Rattle.flat_values.specs.declared.image_forms.TheConstants.{IMAGE_FORMS}
use Rattle.flat_values.proofs.image_forms.image_form_at.Goals as goal

pub returns-else-index-lt18 : goal.returns-else-index-lt18
returns-else-index-lt18 c =
    sym (get_or_past IMAGE_FORMS c.args.number Nothing (omega (
      arith,
      c.if-index-lt18.false,
    )))
