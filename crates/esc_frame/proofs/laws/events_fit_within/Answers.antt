use Rattle.esc_frame.proofs.Emits.EventsFit.{events_fit}
use Rattle.esc_frame.proofs.laws.events_fit_within.Goals as goal

pub returns : goal.returns
returns c = events_fit
