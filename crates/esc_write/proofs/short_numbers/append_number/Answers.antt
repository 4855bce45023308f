use Rattle.std.proofs.Common.{◌++◌, ◌∙◌, ap, sym, arith}
use Rattle.esc_write.proofs.ShortNumbers.{number_one, number_two, number_three}
use Rattle.esc_write.proofs.Results.{ok_both}
use Rattle.esc_write.proofs.short_numbers.append_number.Goals as goal

pub returns-then-number-lt10-clause-ok : goal.returns-then-number-lt10-clause-ok
returns-then-number-lt10-clause-ok g c = ok_both _ _ c.push_str.result
    (λ h. h ∙ ap (λ t. c.args.text.now ++ t) (c.as_str.ensures
    ∙ sym (number_one c.args.number c.args.control c.if-number-lt10.true)))
    c.push_str.ensures.ok

pub returns-then-number-lt100-clause-ok : goal.returns-then-number-lt100-clause-ok
returns-then-number-lt100-clause-ok g c = ok_both _ _ c.push_str-then-number-lt100.result
    (λ h. h ∙ ap (λ t. c.args.text.now ++ t)
    (c.as_str-then-number-lt100.ensures
    ∙ sym (number_two c.args.number c.args.control c.if-number-lt10.false
    c.if-number-lt100.true)))
    c.push_str-then-number-lt100.ensures.ok

pub returns-else-number-lt100-clause-ok : goal.returns-else-number-lt100-clause-ok
returns-else-number-lt100-clause-ok g c = ok_both _ _ c.push_str-else-number-lt100.result
    (λ h. h ∙ ap (λ t. c.args.text.now ++ t)
    (c.as_str-else-number-lt100.ensures
    ∙ sym (number_three c.args.number c.args.control c.if-number-lt100.false (omega arith))))
    c.push_str-else-number-lt100.ensures.ok
