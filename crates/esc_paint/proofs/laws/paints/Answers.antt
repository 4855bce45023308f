-- By the segments of its text.
use Rattle.esc_paint.proofs.Shown.{paints_any}
use Rattle.esc_paint.proofs.laws.paints.Goals as goal

pub returns : goal.returns
returns g c = paints_any _ c.meaning_by_segments.ensures
