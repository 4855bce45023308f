use Rattle.std.proofs.Common.{OnOk, subst}
use Rattle.esc_html.specs.Fed.{Adds, state_of}
use Rattle.esc_html.proofs.page.Page.take_params.Goals as goal

pub returns-in-Some-clause-ok : goal.returns-in-Some-clause-ok
returns-in-Some-clause-ok g c =
    let pen = (state_of c.args.self.now).pen in
    subst (λ s. OnOk c.select_one.result (Adds c.args.self.now s c.select_one.new.self))
    (c.in-Some.ensures pen) c.select_one.ensures.ok
