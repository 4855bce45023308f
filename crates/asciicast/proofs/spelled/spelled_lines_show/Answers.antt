use Rattle.asciicast.proofs.Controls.{line_shows}
use Rattle.asciicast.proofs.spelled.spelled_lines_show.Goals as goal

pub returns : goal.returns
returns c = line_shows
