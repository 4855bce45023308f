use Rattle.esc_frame.proofs.Limit.ShortIsUnlimited.{same_within}
use Rattle.esc_frame.proofs.laws.same_within.Goals as goal

pub returns : goal.returns
returns c = same_within
