use Rattle.std.proofs.Common.{◌++◌, ap, sym, ◌∙◌}
use Rattle.esc_write.proofs.Results.{ok_both}
use Rattle.esc_write.proofs.direct.append_body.Goals as goal

pub returns-in-Some-clause-ok : goal.returns-in-Some-clause-ok
returns-in-Some-clause-ok g c = ok_both _ _ c.append_to.result
    (λ h. h ∙ ap (λ t. c.args.text.now ++ t)
    (sym (c.in-Some.ensures.text c.args.parameters_truncated)))
    c.append_to.ensures.ok
