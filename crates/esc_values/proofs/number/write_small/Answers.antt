use Rattle.std.proofs.Common.{rules, arith, ◌+◌, ◌/◌, ◌%◌, ◌∷◌, [], sym}
use Rattle.std.specs.Fmt.{HasWritten, decimal}
use Rattle.std.proofs.lemmas.Grind.{put_three}
use Rattle.esc_values.proofs.Numbers.AtMostThreeDigits.{decimal_three}
use Rattle.esc_values.proofs.number.write_small.Goals as goal

pub returns-in_ok-write_digit-2 : goal.returns-in_ok-write_digit-2
returns-in_ok-write_digit-2 g c = λ plain ok.
    let took = g.W.Write.write_str_gives in
    let n = c.args.number in
    let one : HasWritten took c.args.f.now ((48 + n / 100) ∷ [])
    c.write_digit-else-number-lt100.new.f = search rules in
    let two : HasWritten took c.write_digit-else-number-lt100.new.f ((48 + n / 10 % 10) ∷ [])
    c.write_digit-else-number-lt100-2.new.f = search rules in
    let three : HasWritten took c.write_digit-else-number-lt100-2.new.f ((48 + n % 10) ∷ [])
    c.write_digit-else-number-lt100-3.new.f = search rules in
    put_three took _ _ _ _ _ _ _ (decimal n) one two three
    (sym (decimal_three n (omega arith) (omega arith)))
