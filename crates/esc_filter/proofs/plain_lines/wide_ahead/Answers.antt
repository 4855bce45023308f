use Rattle.std.proofs.Common.{rules, arith, subst, sym}
use Rattle.esc_filter.specs.Lines.{AreWide}
use Rattle.esc_filter.proofs.ByLine.WideBytesAreKept.{plain_three, plain_two, taken_three, taken_two}
use Rattle.esc_filter.proofs.plain_lines.wide_ahead.Goals as goal

pub returns-then-is_plain_two-clause-character : goal.returns-then-is_plain_two-clause-character
returns-then-is_plain_two-clause-character c =
    subst AreWide (sym (taken_two c.args.bytes.now (omega arith)))
    (plain_two _ _ (search rules))

pub returns-then-is_plain_three-clause-character :
    goal.returns-then-is_plain_three-clause-character
returns-then-is_plain_three-clause-character c =
    subst AreWide (sym (taken_three c.args.bytes.now (omega arith)))
    (plain_three _ _ _ (search rules))
