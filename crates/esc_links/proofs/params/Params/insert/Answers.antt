use Rattle.std.proofs.Common.{ap, ◌∙◌, map}
use Rattle.esc_links.proofs.ParamsSeen.{shown, put_shown}
use Rattle.esc_links.proofs.params.Params.insert.Goals as goal

pub returns-in-Ok-clause-ok : goal.returns-in-Ok-clause-ok
returns-in-Ok-clause-ok g c =
    ap (map shown) c.in-Ok.ensures.entries
    ∙ put_shown c.self.inside.tree.entries c.into_string.result c.into_string-2.result
    ∙ (rw (c.into_string.ensures, c.into_string-2.ensures, c.self.view_is))
