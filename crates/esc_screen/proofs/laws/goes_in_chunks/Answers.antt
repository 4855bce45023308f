use Rattle.esc_screen.proofs.Printing.RunsOfCharacters.{in_chunks}
use Rattle.esc_screen.proofs.laws.goes_in_chunks.Goals as goal

pub returns : goal.returns
returns c = in_chunks
