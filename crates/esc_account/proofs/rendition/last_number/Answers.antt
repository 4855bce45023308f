use Rattle.std.proofs.Common.{not, true, rules, get_or}
use Rattle.std.specs.Prelude.{nat_eq}
use Rattle.esc_filter.proofs.Renditions.ShortRenditionsMean.{one_digit, three_digits, two_digits}
use Rattle.esc_account.proofs.rendition.last_number.Goals as goal

pub returns-then-bytes-eq109 : goal.returns-then-bytes-eq109
returns-then-bytes-eq109 c = (
  search rules,
  (
    not (nat_eq (get_or c.args.bytes.now 0 0) 48),
    one_digit c.args.bytes.now (search rules) (search rules) (search rules) (search rules),
  ),
)

pub returns-then-bytes-eq109-2 : goal.returns-then-bytes-eq109-2
returns-then-bytes-eq109-2 c = (
  search rules,
  (
    true,
    two_digits c.args.bytes.now (search rules) (search rules) (search rules) (search rules)
        (search rules) (search rules),
  ),
)

pub returns : goal.returns
returns c = (
  search rules,
  (
    true,
    three_digits c.args.bytes.now (search rules) (search rules) (search rules) (search rules)
        (search rules) (search rules) (search rules) (search rules),
  ),
)
