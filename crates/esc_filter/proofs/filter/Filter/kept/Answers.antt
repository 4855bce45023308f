use Rattle.std.proofs.Common.{Some}
use Rattle.esc_filter.proofs.filter.Filter.kept.Goals as goal

pub returns-clause-given : goal.returns-clause-given
returns-clause-given g c = λ u limit s h gs cut. c.kept.ensures.given (Some limit) s h.0 gs cut
