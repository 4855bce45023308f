use Rattle.esc_screen.proofs.Sound.StaysSound.{stays_sound}
use Rattle.esc_screen.proofs.laws.stays_sound.Goals as goal

pub returns : goal.returns
returns c = stays_sound
