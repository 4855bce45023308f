use Rattle.esc_filter.proofs.Admission.CommandsAreKnown.{other_begins}
use Rattle.esc_filter.proofs.policy.link_passes.Goals as goal

pub returns-then-has_other_code : goal.returns-then-has_other_code
returns-then-has_other_code g c = other_begins _ c.args.text.now
    (c.has_other_code.ensures c.if-has_other_code.true)
