use Rattle.std.proofs.Common.{◌∷◌, [], ◌++◌, ap, ◌∙◌}
use Rattle.flat_values.proofs.Tables.{after_read}
use Rattle.flat_values.proofs.read_lists.items.Goals as goal

pub loop-field-preserved : goal.loop-field-preserved
loop-field-preserved g c =
    after_read (λ s. g.T.Read.read s.1) c.args.fields.now c.loop-field.field-index
    c.field-item.result c.loop-field.items c.push.new.self c.loop-field-test.true c.field-item.is
    c.loop-field.invariant
    (c.in_ok-push.ensures.ok ∙ ap (λ v. c.loop-field.items ++ v ∷ []) c.in_ok-of.ensures.ok)
