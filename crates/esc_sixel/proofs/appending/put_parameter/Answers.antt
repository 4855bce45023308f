use Rattle.std.proofs.Common.{◌∷◌, []}
use Rattle.std.specs.Fmt.{decimal}
use Rattle.esc_sixel.proofs.Writing.TextIsGathered.{puts_more}
use Rattle.esc_sixel.proofs.appending.put_parameter.Goals as goal

pub returns-clause-puts : goal.returns-clause-puts
returns-clause-puts c =
    puts_more _ _ _ _ _ _ (0x3b ∷ []) (decimal c.args.number) c.put_byte-at.ensures.puts
    c.put_number.ensures.puts
