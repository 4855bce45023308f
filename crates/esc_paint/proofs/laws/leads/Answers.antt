-- By the segments of its text.
use Rattle.esc_paint.proofs.Led.{leads_any}
use Rattle.esc_paint.proofs.laws.leads.Goals as goal

pub returns : goal.returns
returns g c = leads_any _ c.meaning_by_segments.ensures
