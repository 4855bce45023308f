-- The bytes after a stream go on from the screen of the stream.
use Rattle.esc_paint.proofs.Led.{leads_over}
use Rattle.esc_paint.proofs.laws.leads_over.Goals as goal

pub returns : goal.returns
returns g c = leads_over _ c.leads.ensures c.goes_on.ensures c.is_always_sound.ensures
    c.is_always_whole.ensures c.yield_alone.ensures
