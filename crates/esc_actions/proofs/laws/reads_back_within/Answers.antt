use Rattle.esc_actions.proofs.Meaning.WithinLimitIsSame.{reads_back_within}
use Rattle.esc_actions.proofs.laws.reads_back_within.Goals as goal

pub returns : goal.returns
returns g c = reads_back_within c.events_once.ensures c.events_of_the_cut.ensures
    c.same_within.ensures _ c.reads_back.ensures
