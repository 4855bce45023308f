use Rattle.std.proofs.Common.{None}
use Rattle.esc_actions.proofs.Meaning.MeetsHeadline.{meets}
use Rattle.esc_actions.proofs.laws.headline.Goals as goal

pub returns : goal.returns
returns g c = meets c.has_cut.ensures c.one_cut.ensures c.meaning_of_the_cut.ensures
    (c.handed_out.ensures None) c.reads_back.ensures c.same_text.ensures
