use Rattle.std.proofs.Common.{sym, ◌∙◌}
use Rattle.esc_html.proofs.Looks.KindsOfLooks.{other_is}
use Rattle.esc_html.proofs.page_look.kind_of.Goals as goal

pub returns-then-is_plain : goal.returns-then-is_plain
returns-then-is_plain c = sym c.is_plain.ensures ∙ c.if-is_plain.true

pub returns-then-is_colored : goal.returns-then-is_colored
returns-then-is_colored c = sym c.is_colored.ensures ∙ c.if-is_colored.true

pub returns : goal.returns
returns c =
    other_is c.args.look.now (sym c.is_plain.ensures ∙ c.if-is_plain.false)
