use Rattle.std.proofs.Common.{ap, sym}
use Rattle.esc_html.specs.Fed.{with_text}
use Rattle.esc_html.proofs.Pages.RunIsEachCharacter.{bare_visible, ok_same}
use Rattle.esc_html.proofs.page.Page.take_bare.Goals as goal

pub returns-clause-ok : goal.returns-clause-ok
returns-clause-ok g c =
    ok_same c.show_bare.result _ _ _ c.show_bare.ensures.ok
    (ap (with_text c.args.self.now) (sym (bare_visible c.args.run.now c.requires)))
