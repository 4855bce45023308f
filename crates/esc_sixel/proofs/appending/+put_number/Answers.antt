use Rattle.std.proofs.Common.{◌/◌, ◌<◌, ◌∙◌, ◌∷◌, ◌^◌, [], ap, arith, length, length-append}
use Rattle.std.specs.Fmt.{decimal}
use Rattle.std.proofs.lemmas.Fmt.{decimal_step, length-decimal-le}
use Rattle.esc_values.proofs.Numbers.AtMostThreeDigits.{decimal_one}
use Rattle.esc_sixel.proofs.Writing.TextIsGathered.{puts_more}
use Rattle.esc_sixel.proofs.appending.+put_number.Goals as goal

pub returns-then-number-lt10-clause-place : goal.returns-then-number-lt10-clause-place
returns-then-number-lt10-clause-place t c =
    rw (decimal_one c.args.number c.if-number-lt10.true) c.put_byte.ensures.place

pub returns-then-number-lt10-clause-puts : goal.returns-then-number-lt10-clause-puts
returns-then-number-lt10-clause-puts t c =
    rw (decimal_one c.args.number c.if-number-lt10.true) c.put_byte.ensures.puts

pub put_byte-requires-2-clause-room : goal.put_byte-requires-2-clause-room
put_byte-requires-2-clause-room t c =
    let small : c.args.number < 2 ^ 32 = c.ranges.number.fits in
    let digits = length-decimal-le 9 (c.args.number / 10) (omega arith) (omega arith) (omega arith)
    in
    record {
      room = omega (arith, digits, c.put_number-at.ensures.place, c.requires.room);
      ascii = c.put_number-at.ensures.puts.ascii;
    }

pub returns-clause-place : goal.returns-clause-place
returns-clause-place t c =
    let step = decimal_step c.args.number c.if-number-lt10.false (omega arith) in
    let one_more = ap length step ∙ length-append (decimal (c.args.number / 10)) (_ ∷ []) in
    omega (arith, one_more, c.put_number-at.ensures.place, c.put_byte-2.ensures.place)

pub returns-clause-few : goal.returns-clause-few
returns-clause-few t c =
    let small : c.args.number < 2 ^ 32 = c.ranges.number.fits in
    let digits = length-decimal-le 9 (c.args.number / 10) (omega arith) (omega arith) (omega arith)
    in
    omega (arith, digits, c.put_number-at.ensures.place, c.put_byte-2.ensures.place)

pub returns-clause-puts : goal.returns-clause-puts
returns-clause-puts t c =
    rw (decimal_step c.args.number c.if-number-lt10.false (omega arith))
    (puts_more _ _ _ _ _ _ (decimal (c.args.number / 10)) (_ ∷ []) c.put_number-at.ensures.puts
    c.put_byte-2.ensures.puts)
