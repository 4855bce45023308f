use Rattle.command_line.proofs.Bits.{bits_are}
use Rattle.command_line.proofs.reading.bits_are_words.Goals as goal

pub returns : goal.returns
returns c = bits_are
