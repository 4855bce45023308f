use Rattle.command_line.proofs.ShownWords.{word_is_shown}
use Rattle.command_line.proofs.showing.words_are_shown.Goals as goal

pub returns : goal.returns
returns c = word_is_shown
