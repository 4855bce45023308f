use Rattle.esc_terminal.specs.Streams.{values_of}
use Rattle.esc_terminal.proofs.Streams.{stays_whole_after}
use Rattle.esc_screen.proofs.Sound.StaysSound.{begins_sound}
use Rattle.esc_screen.proofs.Whole.GridsStayWhole.{begins_whole}
use Rattle.esc_terminal.proofs.laws.is_always_whole.Goals as goal

pub returns : goal.returns
returns g c = λ z s rows columns.
    stays_whole_after z _ (values_of _ s) (begins_sound z rows columns) (begins_whole z)
