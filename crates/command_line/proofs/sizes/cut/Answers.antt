use Rattle.command_line.proofs.Units.{cut_is}
use Rattle.command_line.proofs.sizes.cut.Goals as goal

pub returns : goal.returns
returns c = cut_is _ _ _ c.strip_suffix.ensures.cases
