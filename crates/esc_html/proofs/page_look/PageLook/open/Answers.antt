use Rattle.esc_html.proofs.Looks.KindsOfLooks.{kind_alone, kind_marked}
use Rattle.esc_html.proofs.page_look.PageLook.open.Goals as goal

pub open_colored-requires : goal.open_colored-requires
open_colored-requires g c = kind_alone _ _ c.args.self.now.is_kind c.in-Colored.is

pub push_marked-requires : goal.push_marked-requires
push_marked-requires g c = kind_marked _ _ _ c.args.self.now.is_kind c.in-Marked.is
