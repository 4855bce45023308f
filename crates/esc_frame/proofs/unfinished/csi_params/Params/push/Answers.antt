use Rattle.std.proofs.Common.{◌≡◌, true, false, None, subst, sym, arith}
use Rattle.esc_frame.specs.Bodies.{is_digit}
use Rattle.esc_frame.specs.Machine.Keeps.{IsNumber, number_of_run}
use Rattle.esc_frame.specs.Machine.Keeps.{closed_of}
use Rattle.esc_frame.proofs.Steps.ParamsGrow.{closed_digit, closed_other, number_push, number_other, digit_yes, digit_low, digit_high}
use Rattle.esc_frame.proofs.unfinished.csi_params.Params.push.Goals as goal

pub returns-then-b-le57 : goal.returns-then-b-le57
returns-then-b-le57 c = λ x h.
    let b = c.args.b in
    let d : is_digit b ≡ true = digit_yes b (omega arith) (omega arith) in (
      rw (
        c.push_digit.ensures.others.0,
        c.push_digit.ensures.others.1,
        c.push_digit.ensures.others.2,
        closed_digit x b d,
      ) h.0,
      subst (λ o. IsNumber c.push_digit.new.self o) (sym (number_push None x b))
          (c.push_digit.ensures.number (number_of_run None x) h.1),
      rw c.push_digit.ensures.others.2 h.2,
    )

pub returns-then-b-lt48 : goal.returns-then-b-lt48
returns-then-b-lt48 c = λ x h.
    let b = c.args.b in
    let d : is_digit b ≡ false = digit_low b (omega arith) in (
      rw (closed_other x b d) (c.push_other.ensures.first (number_of_run None x) (closed_of None x)
          h.1 h.0),
      subst (λ o. IsNumber c.push_other.new.self o) (sym (number_other x b d))
          c.push_other.ensures.number,
      rw c.push_other.ensures.limit h.2,
    )

pub returns-else-b-le57 : goal.returns-else-b-le57
returns-else-b-le57 c = λ x h.
    let b = c.args.b in
    let d : is_digit b ≡ false = digit_high b (omega arith) in (
      rw (closed_other x b d) (c.push_other-else-b-le57.ensures.first (number_of_run None x)
          (closed_of None x) h.1 h.0),
      subst (λ o. IsNumber c.push_other-else-b-le57.new.self o) (sym (number_other x b d))
          c.push_other-else-b-le57.ensures.number,
      rw c.push_other-else-b-le57.ensures.limit h.2,
    )
