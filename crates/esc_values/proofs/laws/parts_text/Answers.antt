use Rattle.esc_values.proofs.Clear.SplitAndJoined.{parts_text as lemma}
use Rattle.esc_values.proofs.laws.parts_text.Goals as goal

pub returns : goal.returns
returns c = lemma
