-- By the segments of all texts.
use Rattle.esc_paint.proofs.Led.{leads_on}
use Rattle.esc_paint.proofs.laws.leads_on.Goals as goal

pub returns : goal.returns
returns g c = leads_on _ c.meaning_by_segments.ensures
