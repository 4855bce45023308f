use Rattle.std.proofs.Common.{rules, arith}
use Rattle.unicode_visibility.proofs.Ranges.{fifth_far, fourth_far, last_far, low_plain, second_far, sixth_far, third_far}
use Rattle.unicode_visibility.proofs.deceiving.is_far.Goals as goal

pub returns-in-0-to-172 : goal.returns-in-0-to-172
returns-in-0-to-172 c = λ _. low_plain c.args.number (search (arith, rules))

pub returns-in-0-to-172-2 : goal.returns-in-0-to-172-2
returns-in-0-to-172-2 c = λ _. second_far c.args.number (search rules) (search rules)

pub returns-in-0-to-172-3 : goal.returns-in-0-to-172-3
returns-in-0-to-172-3 c = λ _. third_far c.args.number (search rules) (search rules)

pub returns-in-0-to-172-4 : goal.returns-in-0-to-172-4
returns-in-0-to-172-4 c = λ _. fourth_far c.args.number (search rules) (search rules)

pub returns-in-0-to-172-5 : goal.returns-in-0-to-172-5
returns-in-0-to-172-5 c = λ _. fifth_far c.args.number (search rules) (search rules)

pub returns-in-0-to-172-6 : goal.returns-in-0-to-172-6
returns-in-0-to-172-6 c = λ _. sixth_far c.args.number (search rules) (search rules)

pub returns-in-0-to-172-7 : goal.returns-in-0-to-172-7
returns-in-0-to-172-7 c = λ _. last_far c.args.number (search rules) (search rules)
