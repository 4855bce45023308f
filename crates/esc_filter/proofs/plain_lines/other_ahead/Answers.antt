use Rattle.std.proofs.Common.{rules}
use Rattle.esc_filter.proofs.ByLine.WideBytesAreKept.{wide_one}
use Rattle.esc_filter.proofs.plain_lines.other_ahead.Goals as goal

pub returns-then-not-is_deceiving-clause-character :
    goal.returns-then-not-is_deceiving-clause-character
returns-then-not-is_deceiving-clause-character c =
    wide_one _ c.ahead-n.result.1 (c.ahead-n.ensures.ahead (search rules)).1 (search rules)
