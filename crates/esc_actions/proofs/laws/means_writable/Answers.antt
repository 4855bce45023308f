use Rattle.std.proofs.Common.{None}
use Rattle.esc_actions.proofs.Values.ValuesComeInGroups.{means_writable}
use Rattle.esc_actions.proofs.laws.means_writable.Goals as goal

pub returns : goal.returns
returns g c = means_writable _ c.means_groups.ensures (c.handed_out.ensures None)
