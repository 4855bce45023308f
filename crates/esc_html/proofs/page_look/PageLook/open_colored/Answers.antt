use Rattle.esc_html.proofs.Looks.ColoredIsItsColor.{is_colored}
use Rattle.esc_html.proofs.page_look.PageLook.open_colored.Goals as goal

pub push_colored-requires : goal.push_colored-requires
push_colored-requires g c = is_colored c.args.self.now.look _ c.in-Named.is c.requires
