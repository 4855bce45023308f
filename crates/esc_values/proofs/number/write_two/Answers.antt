use Rattle.std.proofs.Common.{rules, arith, ◌+◌, ◌/◌, ◌%◌, ◌∷◌, [], sym}
use Rattle.std.specs.Fmt.{HasWritten, decimal}
use Rattle.std.proofs.lemmas.Grind.{put_two}
use Rattle.esc_values.proofs.Numbers.AtMostThreeDigits.{decimal_two}
use Rattle.esc_values.proofs.number.write_two.Goals as goal

pub returns : goal.returns
returns g c = λ plain ok.
    let took = g.W.Write.write_str_gives in
    let n = c.args.number in
    let one : HasWritten took c.args.f.now ((48 + n / 10) ∷ []) c.write_digit.new.f =
    search rules in
    let two : HasWritten took c.write_digit.new.f ((48 + n % 10) ∷ []) c.write_digit-2.new.f =
    search rules in
    put_two took _ _ _ _ _ (decimal n) one two (sym (decimal_two n (omega arith) (omega arith)))
