use Rattle.std.proofs.Common.{◌<◌, ap, get_or, length, refl, rules}
use Rattle.esc_sixel.specs.Steps.{Pushes}
use Rattle.esc_sixel.proofs.Bytes.ManyBytes.{folds_one, line_ended}
use Rattle.esc_sixel.proofs.builder.SixelBuilder.end_line.Goals as goal

pub returns-in-Ok-clause-takes : goal.returns-in-Ok-clause-takes
returns-in-Ok-clause-takes g c =
    let p = c.args.self.now in
    let xs = c.args.rest.now in
    let some : 0 < length xs = search rules in
    let e = ap (λ t. record p.sixel { content = t }) c.in-Ok.ensures.ok in
    folds_one Pushes p xs 0 p _ some refl (line_ended p _ (get_or xs 0 0) c.in-Some.end c.requires
    c.in-Some.ensures e c.requires)
