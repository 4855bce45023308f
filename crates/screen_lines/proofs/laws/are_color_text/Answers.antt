use Rattle.screen_lines.proofs.Tokens.{color_rows}
use Rattle.screen_lines.proofs.laws.are_color_text.Goals as goal

pub returns : goal.returns
returns c = color_rows
