use Rattle.esc_html.proofs.Looks.ColoredIsItsColor.{colored_some}
use Rattle.esc_html.proofs.colored.colored_tag.Goals as goal

pub returns-in-Named : goal.returns-in-Named
returns-in-Named c =
    colored_some c.tag_if.result (λ t. t.now) c.is_colored_alone.result c.args.look.now
    c.in-Named.color c.in-Named.is c.is_colored_alone.ensures c.tag_if.ensures
