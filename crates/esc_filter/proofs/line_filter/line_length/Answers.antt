use Rattle.std.proofs.Common.{arith}
use Rattle.esc_filter.proofs.ByLine.FirstAndLastFeed.{first_line, no_line}
use Rattle.esc_filter.proofs.line_filter.line_length.Goals as goal

pub returns-in-Some : goal.returns-in-Some
returns-in-Some c =
    let k = c.in-Some.ensures in (
      omega arith,
      omega (arith, k.0.high),
      first_line c.args.bytes.now c.in-Some.at k.0.high k.0.before k.1,
    )

pub returns-in-None : goal.returns-in-None
returns-in-None c = no_line c.args.bytes.now c.in-None.ensures
