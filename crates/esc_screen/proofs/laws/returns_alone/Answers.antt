use Rattle.esc_screen.proofs.Scrolled.LineFeedReturns.{returns_alone}
use Rattle.esc_screen.proofs.laws.returns_alone.Goals as goal

pub returns : goal.returns
returns c = returns_alone
