use Rattle.std.proofs.Common.{◌++◌, ◌∙◌, ap, sym, string_bytes, arith}
use Rattle.esc_sgr.proofs.Texts.{number_one, number_two, number_three, ok_map}
use Rattle.esc_sgr.proofs.sgr.push_number.Goals as goal

pub returns-then-number-lt10-clause-ok : goal.returns-then-number-lt10-clause-ok
returns-then-number-lt10-clause-ok g c = ok_map c.push_ascii.result
    (λ h. h ∙ ap (λ t. string_bytes c.args.text.now ++ t)
    (sym (number_one c.args.number c.if-number-lt10.true)))
    c.push_ascii.ensures.ok

pub returns-then-number-lt100-clause-ok : goal.returns-then-number-lt100-clause-ok
returns-then-number-lt100-clause-ok g c = ok_map c.push_ascii-then-number-lt100.result
    (λ h. h ∙ ap (λ t. string_bytes c.args.text.now ++ t)
    (sym (number_two c.args.number c.if-number-lt10.false c.if-number-lt100.true)))
    c.push_ascii-then-number-lt100.ensures.ok

pub returns-else-number-lt100-clause-ok : goal.returns-else-number-lt100-clause-ok
returns-else-number-lt100-clause-ok g c = ok_map c.push_ascii-else-number-lt100.result
    (λ h. h ∙ ap (λ t. string_bytes c.args.text.now ++ t)
    (sym (number_three c.args.number c.if-number-lt100.false (omega arith))))
    c.push_ascii-else-number-lt100.ensures.ok
