use Rattle.std.proofs.Common.{◌≡◌, ◌+◌, ◌-◌, length, arith, sym}
use Rattle.esc_filter.proofs.Output.DeceivingCharacters.{last_at}
use Rattle.esc_filter.proofs.written.last_byte.Goals as goal

pub returns-else-is_empty : goal.returns-else-is_empty
returns-else-is_empty c =
    let s = c.args.text.now in
    let more : length s ≡ length s - 1 + 1 = grind arith in
    sym (last_at c.args.before s (length s - 1) more)
