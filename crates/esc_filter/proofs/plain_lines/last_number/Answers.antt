use Rattle.std.proofs.Common.{rules}
use Rattle.esc_filter.proofs.Renditions.ShortRenditionsMean.{one_digit, three_digits, two_digits}
use Rattle.esc_filter.proofs.plain_lines.last_number.Goals as goal

pub returns-then-bytes-eq109 : goal.returns-then-bytes-eq109
returns-then-bytes-eq109 c = (
  search rules,
  one_digit c.args.bytes.now (search rules) (search rules) (search rules) (search rules),
)

pub returns-then-bytes-eq109-2 : goal.returns-then-bytes-eq109-2
returns-then-bytes-eq109-2 c = (
  search rules,
  two_digits c.args.bytes.now (search rules) (search rules) (search rules) (search rules)
      (search rules) (search rules),
)

pub returns : goal.returns
returns c = (
  search rules,
  three_digits c.args.bytes.now (search rules) (search rules) (search rules) (search rules)
      (search rules) (search rules) (search rules) (search rules),
)
