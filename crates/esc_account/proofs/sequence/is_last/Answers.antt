use Rattle.std.proofs.Common.{arith, sym, ◌∙◌}
use Rattle.esc_write.proofs.ShortNumbers.{last_one, last_two, last_three}
use Rattle.esc_account.proofs.sequence.is_last.Goals as goal

pub returns-then-number-lt10 : goal.returns-then-number-lt10
returns-then-number-lt10 c = λ h.
    last_one c.args.number c.args.last c.if-number-lt10.true ∙ sym (c.is_same.ensures.0 h)

pub returns-then-number-lt100 : goal.returns-then-number-lt100
returns-then-number-lt100 c = λ h.
    last_two c.args.number c.args.last c.if-number-lt10.false c.if-number-lt100.true
    ∙ sym (c.is_same-then-number-lt100.ensures.0 h)

pub returns-else-number-lt100 : goal.returns-else-number-lt100
returns-else-number-lt100 c = λ h.
    last_three c.args.number c.args.last c.if-number-lt100.false (omega arith)
    ∙ sym (c.is_same-else-number-lt100.ensures.0 h)
