use Rattle.std.proofs.Common.{[], ◌∷◌}
use Rattle.std.proofs.lemmas.Result.{on_ok_weaker}
use Rattle.flat_values.proofs.Images.{two_more}
use Rattle.flat_values.specs.Images.{flag_field, placement_sizes}
use Rattle.flat_values.specs.declared.field_name.FieldName.TheVariants as name
use Rattle.flat_values.proofs.append_numbers.append_placement.Goals as goal

pub returns-clause-ok : goal.returns-clause-ok
returns-clause-ok c =
    let placement = c.args.placement.now in
    on_ok_weaker c.push_flag.result (two_more c.args.fields.now _ _ _ (placement_sizes placement)
    ((name.ZIndex, placement.z_index) ∷ [])
    ((name.UnicodePlaceholder, flag_field placement.unicode_placeholder) ∷ [])
    c.in_ok-append_sizes.ensures.ok c.in_ok-append_order.ensures.ok) c.push_flag.ensures.ok
