use Rattle.std.proofs.Common.{◌-◌, ◌∙◌}
use Rattle.std.proofs.lemmas.Nat.{and_comm}
use Rattle.bitflags.specs.Sets.{known_from}
use Rattle.esc_osc_values.specs.Selections.{named_bits}
use Rattle.esc_osc_values.proofs.selection.Selection.complement.Goals as goal

pub returns : goal.returns
unfolding known_from
returns c = c.complement.ensures tt ∙ and_comm (65535 - c.args.self.0) named_bits
