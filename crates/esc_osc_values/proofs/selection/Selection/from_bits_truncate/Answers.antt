use Rattle.bitflags.specs.Sets.{known_from}
use Rattle.esc_osc_values.proofs.selection.Selection.from_bits_truncate.Goals as goal

pub returns : goal.returns
unfolding known_from
returns c = c.from_bits_truncate.ensures tt
