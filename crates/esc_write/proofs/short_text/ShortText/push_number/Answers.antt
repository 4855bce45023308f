use Rattle.std.proofs.Common.{◌++◌, ◌∙◌, ap, sym, arith}
use Rattle.esc_values.proofs.Numbers.AtMostThreeDigits.{decimal_one, decimal_two, decimal_three}
use Rattle.esc_write.proofs.ShortTexts.{two_pushed, three_pushed}
use Rattle.esc_write.proofs.short_text.ShortText.push_number.Goals as goal

pub returns-then-number-lt10 : goal.returns-then-number-lt10
returns-then-number-lt10 c = c.push.ensures
    ∙ ap (λ t. c.args.self.now ++ t) (sym (decimal_one c.args.number c.if-number-lt10.true))

pub returns-then-number-lt100 : goal.returns-then-number-lt100
returns-then-number-lt100 c =
    two_pushed c.args.self.now _ _ _ _ c.push-then-number-lt100.ensures
    c.push-then-number-lt100-2.ensures
    ∙ ap (λ t. c.args.self.now ++ t)
    (sym (decimal_two c.args.number c.if-number-lt10.false c.if-number-lt100.true))

pub returns-else-number-lt100 : goal.returns-else-number-lt100
returns-else-number-lt100 c =
    three_pushed c.args.self.now _ _ _ _ _ _ c.push-else-number-lt100.ensures
    c.push-else-number-lt100-2.ensures c.push-else-number-lt100-3.ensures
    ∙ ap (λ t. c.args.self.now ++ t)
    (sym (decimal_three c.args.number c.if-number-lt100.false (omega arith)))
