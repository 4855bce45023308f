use Rattle.std.proofs.Common.{◌++◌, ap, ◌∙◌}
use Rattle.esc_write.proofs.Results.{ok_both}
use Rattle.esc_write.proofs.direct.append_csi_params.Goals as goal

pub returns-then-push_sequence-clause-ok : goal.returns-then-push_sequence-clause-ok
returns-then-push_sequence-clause-ok g c = ok_both _ _ c.push_str.result
    (λ h. h ∙ ap (λ t. c.args.text.now ++ t) (c.as_str.ensures.text
    ∙ c.push_sequence.ensures c.args.parameters_truncated c.if-push_sequence.true))
    c.push_str.ensures.ok
