use Rattle.std.proofs.Common.{rules}
use Rattle.esc_filter.proofs.ByLine.BytesOfLines.{last_return}
use Rattle.esc_filter.proofs.line_filter.ends_return.Goals as goal

pub returns-then-not-is_empty : goal.returns-then-not-is_empty
returns-then-not-is_empty c = last_return c.args.bytes.now (search rules)
