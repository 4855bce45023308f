use Rattle.std.proofs.Common.{ap, sym, ◌∙◌}
use Rattle.std.specs.List.{list_all}
use Rattle.esc_filter.specs.Rules.{is_shown}
use Rattle.esc_filter.proofs.Admission.ChoicesAdmit.{str_chosen}
use Rattle.esc_filter.proofs.groups.GroupsAdmit.admits_str.Goals as goal

pub returns-then-has : goal.returns-then-has
returns-then-has g c = λ t. str_chosen g.row.A.Denot c.args.self.now c.args.text.now c.utf8.text
    (sym c.has.ensures ∙ c.if-has.true)
    (ap (list_all is_shown) (sym c.as_bytes.ensures.value) ∙ sym c.are_shown.ensures ∙ t)
