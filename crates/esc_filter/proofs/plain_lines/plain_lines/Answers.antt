use Rattle.std.proofs.Common.{◌≡◌, rules, subst, take}
use Rattle.esc_filter.specs.Openings.{ArePlainLines}
use Rattle.esc_filter.proofs.plain_lines.plain_lines.Goals as goal

pub returns-clause-lines : goal.returns-clause-lines
returns-clause-lines g c =
    let e : take c.plain_length-length.result c.args.bytes.now ≡ c.from_utf8_unchecked.result.now =
    search rules in
    subst (ArePlainLines g.row.A.Denot c.args.renditions) e c.plain_length-length.ensures.lines
