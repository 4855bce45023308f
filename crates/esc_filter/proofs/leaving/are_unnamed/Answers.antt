use Rattle.std.proofs.Common.{rules}
use Rattle.esc_filter.proofs.GivingBack.RenditionsAfterSequence.{unnamed_turns}
use Rattle.esc_filter.proofs.leaving.are_unnamed.Goals as goal

pub returns-then-are_plain : goal.returns-then-are_plain
returns-then-are_plain c =
    unnamed_turns c.args.params.now (search rules) (search rules)
