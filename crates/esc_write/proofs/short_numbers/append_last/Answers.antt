use Rattle.std.proofs.Common.{◌++◌, ◌∙◌, ap, sym, arith}
use Rattle.esc_write.proofs.ShortNumbers.{last_one, last_two, last_three}
use Rattle.esc_write.proofs.Results.{ok_both}
use Rattle.esc_write.proofs.short_numbers.append_last.Goals as goal

pub returns-then-number-lt10-clause-ok : goal.returns-then-number-lt10-clause-ok
returns-then-number-lt10-clause-ok g c = ok_both _ _ c.push_str.result
    (λ h. h ∙ ap (λ t. c.args.text.now ++ t) (c.as_str.ensures
    ∙ sym (last_one c.args.number c.args.control c.if-number-lt10.true)))
    c.push_str.ensures.ok

pub returns-then-number-lt100-clause-ok : goal.returns-then-number-lt100-clause-ok
returns-then-number-lt100-clause-ok g c = ok_both _ _ c.push_str-then-number-lt100.result
    (λ h. h ∙ ap (λ t. c.args.text.now ++ t)
    (c.as_str-then-number-lt100.ensures
    ∙ sym (last_two c.args.number c.args.control c.if-number-lt10.false
    c.if-number-lt100.true)))
    c.push_str-then-number-lt100.ensures.ok

pub returns-else-number-lt100-clause-ok : goal.returns-else-number-lt100-clause-ok
returns-else-number-lt100-clause-ok g c = ok_both _ _ c.push_str-else-number-lt100.result
    (λ h. h ∙ ap (λ t. c.args.text.now ++ t)
    (c.as_str-else-number-lt100.ensures
    ∙ sym (last_three c.args.number c.args.control c.if-number-lt100.false (omega arith))))
    c.push_str-else-number-lt100.ensures.ok
