use Rattle.std.proofs.Common.{ap, sym, ◌∙◌, ◌++◌}
use Rattle.esc_html.proofs.Pages.RunIsEachCharacter.{bare_text, ok_same}
use Rattle.esc_html.proofs.markup.Markup.push_bare.Goals as goal

pub returns-in-Some-clause-ok : goal.returns-in-Some-clause-ok
returns-in-Some-clause-ok g c =
    ok_same c.push_byte.result _ _ _ c.push_byte.ensures.ok
    (ap (λ y. c.args.self.now ++ y)
    (sym c.in-Some.ensures.whole ∙ sym (bare_text c.args.more.now c.requires)))

pub returns-in-None-clause-ok : goal.returns-in-None-clause-ok
returns-in-None-clause-ok g c =
    ok_same c.push_html.result _ _ _ c.push_html.ensures.ok
    (ap (λ y. c.args.self.now ++ y) (sym (bare_text c.args.more.now c.requires)))
