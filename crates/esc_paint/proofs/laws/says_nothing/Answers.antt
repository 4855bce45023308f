-- Each of its cells is the same as itself.
use Rattle.esc_paint.proofs.Led.{says_nothing}
use Rattle.esc_paint.proofs.laws.says_nothing.Goals as goal

pub returns : goal.returns
returns c = says_nothing
