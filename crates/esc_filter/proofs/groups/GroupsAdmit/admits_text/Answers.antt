use Rattle.std.proofs.Common.{sym, ◌∙◌}
use Rattle.esc_filter.proofs.Admission.ChoicesAdmit.{run_chosen}
use Rattle.esc_filter.proofs.groups.GroupsAdmit.admits_text.Goals as goal

pub returns-then-has : goal.returns-then-has
returns-then-has g c = λ t. run_chosen g.row.A.Denot c.args.self.now c.args.text.now
    (sym c.has.ensures ∙ c.if-has.true) (sym c.are_shown.ensures ∙ t)
