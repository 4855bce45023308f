use Rattle.std.proofs.Common.{OnOk, ap, subst, ◌∙◌}
use Rattle.esc_html.proofs.Sequences.SequenceIsOneAction.{same_rendition}
use Rattle.esc_html.specs.Fed.{Adds, state_of}
use Rattle.esc_html.specs.Marks.{restyles}
use Rattle.esc_style.specs.Looks.{look_by}
use Rattle.esc_html.proofs.page.Page.take_rendition.Goals as goal

pub returns-clause-ok : goal.returns-clause-ok
returns-clause-ok g c =
    let pen = (state_of c.args.self.now).pen in
    subst (λ s. OnOk c.select_one.result (Adds c.args.self.now s c.select_one.new.self))
    (ap (λ r. restyles (look_by pen.look r)) c.rendition_of.ensures
    ∙ same_rendition pen c.args.rendition) c.select_one.ensures.ok
