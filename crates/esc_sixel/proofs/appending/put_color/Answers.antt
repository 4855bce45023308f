use Rattle.std.proofs.Common.{◌∷◌, ◌++◌, [], sym}
use Rattle.std.specs.Fmt.{decimal}
use Rattle.esc_sixel.proofs.Writing.TextIsGathered.{puts_more}
use Rattle.esc_sixel.proofs.appending.put_color.Goals as goal

pub returns-clause-puts : goal.returns-clause-puts
returns-clause-puts c =
    let last = 0x3b ∷ decimal c.args.color.2 in
    let second = 0x3b ∷ decimal c.args.color.1 in
    let first = 0x3b ∷ decimal c.args.color.0 in
    let number = decimal c.from.result in
    let rest = first ++ (second ++ last) in
    rw (sym c.from.ensures) (puts_more _ _ _ _ _ _ (0x23 ∷ [])
    (number ++ 0x3b ∷ c.args.system ∷ rest) c.put_byte-at.ensures.puts
    (puts_more _ _ _ _ _ _ number (0x3b ∷ c.args.system ∷ rest) c.put_number-at.ensures.puts
    (puts_more _ _ _ _ _ _ (0x3b ∷ []) (c.args.system ∷ rest) c.put_byte-at-2.ensures.puts
    (puts_more _ _ _ _ _ _ (c.args.system ∷ []) rest c.put_byte-at-3.ensures.puts
    (puts_more _ _ _ _ _ _ first (second ++ last) c.put_parameter-at.ensures.puts
    (puts_more _ _ _ _ _ _ second last c.put_parameter-at-2.ensures.puts
    c.put_parameter.ensures.puts))))))
