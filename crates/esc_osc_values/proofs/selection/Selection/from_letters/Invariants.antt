use Rattle.std.proofs.Common.{◌≡◌, drop}
use Rattle.esc_osc_values.specs.Selections.{with_letters, selection_of}
use Rattle.esc_osc_values.proofs.selection.Selection.from_letters.Given as goal

abbrev pub invariant-loop-letter : goal.invariant-loop-letter
invariant-loop-letter l = selection_of l.text ≡ with_letters l.bits (drop l.letter-index l.text)
