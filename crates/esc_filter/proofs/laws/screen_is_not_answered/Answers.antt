use Rattle.esc_filter.proofs.GivingBack.ScreenFunctions.{escape_unanswered, sequence_unanswered}
use Rattle.esc_filter.proofs.laws.screen_is_not_answered.Goals as goal

pub returns-clause-sequences : goal.returns-clause-sequences
returns-clause-sequences c = sequence_unanswered

pub returns-clause-escapes : goal.returns-clause-escapes
returns-clause-escapes c = escape_unanswered
