use Rattle.esc_actions.proofs.Writing.WritableIsJoined.{joins_groups, joined_writable}
use Rattle.esc_actions.proofs.laws.writable_is_joined.Goals as goal

pub returns : goal.returns
returns g c = λ vs. (joins_groups vs, joined_writable vs)
