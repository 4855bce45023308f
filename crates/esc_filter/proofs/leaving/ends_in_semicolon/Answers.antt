use Rattle.std.proofs.Common.{rules}
use Rattle.esc_filter.proofs.GivingBack.RenditionsAfterSequence.{last_semicolon}
use Rattle.esc_filter.proofs.leaving.ends_in_semicolon.Goals as goal

pub returns-then-not-is_empty : goal.returns-then-not-is_empty
returns-then-not-is_empty c = last_semicolon c.args.bytes.now (search rules)
