use Rattle.screen_lines.proofs.Bare.{plain_rows}
use Rattle.screen_lines.proofs.laws.are_plain_text.Goals as goal

pub returns : goal.returns
returns c = plain_rows
