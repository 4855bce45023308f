use Rattle.esc_screen.proofs.Sound.StaysSound.{begins_sound}
use Rattle.esc_screen.proofs.laws.begins_sound.Goals as goal

pub returns : goal.returns
returns c = begins_sound
