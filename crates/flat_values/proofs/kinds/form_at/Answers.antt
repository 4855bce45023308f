use Rattle.std.proofs.Common.{arith, sym}
use Rattle.std.proofs.lemmas.List.{get_or_past}
use Rattle.flat_values.specs.declared.kinds.Form.TheVariants.{Other}
use Rattle.flat_values.specs.declared.kinds.OtherKind.TheVariants as other
use Rattle.flat_values.specs.declared.kinds.TheConstants.{FORMS}
use Rattle.flat_values.proofs.kinds.form_at.Goals as goal

pub returns-else-index-lt44 : goal.returns-else-index-lt44
returns-else-index-lt44 c =
    sym (get_or_past FORMS c.args.number (Other other.Unspecified) (omega (
      arith,
      c.if-index-lt44.false,
    )))
