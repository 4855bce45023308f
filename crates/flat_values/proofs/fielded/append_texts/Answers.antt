use Rattle.std.proofs.Common.{◌∷◌, [], ap, ◌∙◌}
use Rattle.flat_values.proofs.Tables.{after_item}
use Rattle.flat_values.specs.Fields.{text_field, with_field}
use Rattle.flat_values.proofs.fielded.append_texts.Goals as goal

pub loop-text-preserved : goal.loop-text-preserved
loop-text-preserved c =
    after_item (λ t. text_field c.args.name t ∷ []) c.loop-text.fields c.push_text.new.self _
    c.args.texts.now c.loop-text.text-index c.text-item.result c.loop-text-test.true c.text-item.is
    c.loop-text.invariant
    (c.in_ok-push_text.ensures.ok
    ∙ ap (λ b. with_field c.loop-text.fields (text_field c.args.name b)) c.as_bytes.ensures)
