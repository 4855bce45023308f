-- The bytes after a stream go on from the screen of the stream.
use Rattle.esc_paint.proofs.Shown.{paints_over}
use Rattle.esc_paint.proofs.laws.paints_over.Goals as goal

pub returns : goal.returns
returns g c = paints_over _ c.paints.ensures c.goes_on.ensures c.is_always_sound.ensures
    c.yield_alone.ensures
