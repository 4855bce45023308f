use Rattle.std.proofs.Common.{◌∙◌, ◌≡◌, ap, arith, length, rules, sym, take}
use Rattle.std.proofs.lemmas.List.{length-take}
use Rattle.esc_sixel.proofs.Runs.RunsOfDigits.{digit_more, digits_written, number_more, written}
use Rattle.esc_sixel.proofs.parameters.Parameters.digits.Goals as goal

pub loop-end-preserved : goal.loop-end-preserved
loop-end-preserved c = record {
  within = omega (arith, c.loop-end-test.true);
  digits = digit_more c.args.rest.now c.loop-end.end c.loop-end-test.true
      c.loop-end.invariant.digits c.if-rest-end-ge48.true c.if-rest-end-le57.true;
  number = number_more c.args.rest.now c.loop-end.end _ c.loop-end.number c.with_digit-number.result
      c.loop-end-test.true c.loop-end.invariant.number
      c.with_digit-number.ensures;
}

pub returns-then-end-gt0 : goal.returns-then-end-gt0
returns-then-end-gt0 c =
    let five : length c.args.self.now.values ≡ 5 = search rules in
    let taken = take c.loop-end.end c.args.rest.now in
    record {
      few = c.loop-end.invariant.within;
      digits = c.loop-end.invariant.digits;
      taken = sym (digits_written c.args.self.now taken (omega (arith, five, c.if-self-ge5.false))
          (omega (
            arith,
            length-take c.loop-end.end c.args.rest.now,
            c.loop-end.invariant.within,
            c.if-end-gt0.true,
          ))
          ∙ ap (written c.args.self.now) (sym c.loop-end.invariant.number));
      room = λ t. c.if-self-ge5.false;
    }
