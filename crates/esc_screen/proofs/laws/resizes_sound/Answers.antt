use Rattle.esc_screen.proofs.Resizing.{resizes_sound}
use Rattle.esc_screen.proofs.laws.resizes_sound.Goals as goal

pub returns : goal.returns
returns c = resizes_sound
