use Rattle.std.proofs.Common.{◌++◌, ap, sym, ◌∙◌, arith}
use Rattle.esc_decode.proofs.Reading.{encode_three, encode_two}
use Rattle.esc_decode.proofs.eight_bit.push_scalar.Goals as goal

pub returns-in_ok-extend-clause-ok : goal.returns-in_ok-extend-clause-ok
returns-in_ok-extend-clause-ok g c =
    c.in_ok-extend.ensures.items
    ∙ ap (λ t. c.args.text.now.items ++ t)
    (sym (encode_two c.args.n (omega arith) (omega arith)))

pub returns-in_ok-extend-2-clause-ok : goal.returns-in_ok-extend-2-clause-ok
returns-in_ok-extend-2-clause-ok g c =
    c.in_ok-extend-2.ensures.items
    ∙ ap (λ t. c.args.text.now.items ++ t)
    (sym (encode_three c.args.n (omega arith) (omega arith)))
