use Rattle.std.proofs.Common.{[], ◌∷◌, ◌++◌, ◌∙◌, ap}
use Rattle.std.proofs.lemmas.Result.{on_ok_weaker}
use Rattle.flat_values.proofs.Images.{two_more}
use Rattle.flat_values.specs.Fields.{with_fields}
use Rattle.flat_values.specs.Images.{delete_places, flag_field, number_fields}
use Rattle.flat_values.specs.declared.field_name.FieldName.TheVariants as name
use Rattle.flat_values.proofs.append_delete.append_delete.Goals as goal

pub returns-clause-ok : goal.returns-clause-ok
returns-clause-ok c =
    let t = c.args.fields.now in
    let places = delete_places c.args.what.now in
    on_ok_weaker c.push_flag.result (λ is.
    two_more t _ _ _ places ((name.ZIndex, c.order.result) ∷ [])
    ((name.DeletesData, flag_field c.deletes_data.result) ∷ [])
    (c.in_ok-append_each.ensures.ok ∙ ap (with_fields t) c.places.ensures)
    c.in_ok-append_order.ensures.ok is
    ∙ (λ i. with_fields t (number_fields (places ++ (name.ZIndex, c.order.ensures i)
    ∷ (name.DeletesData, flag_field (c.deletes_data.ensures i)) ∷ [])))) c.push_flag.ensures.ok
