use Rattle.std.proofs.Common.{sym}
use Rattle.esc_html.proofs.Looks.KindsOfLooks.{kind_colored, kind_marked_seen, kind_other, kind_plain}
use Rattle.esc_html.proofs.page_look.PageLook.is_plain.Goals as goal

pub returns-in-Plain : goal.returns-in-Plain
returns-in-Plain c = sym (kind_plain _ _ c.args.self.now.is_kind c.in-Plain.is)

pub returns-in-Colored : goal.returns-in-Colored
returns-in-Colored c = sym (kind_colored _ _ c.args.self.now.is_kind c.in-Colored.is)

pub returns-in-Marked : goal.returns-in-Marked
returns-in-Marked c = sym (kind_marked_seen _ _ _ c.args.self.now.is_kind c.in-Marked.is)

pub returns-in-Other : goal.returns-in-Other
returns-in-Other c = sym (kind_other _ _ c.args.self.now.is_kind c.in-Other.is)
