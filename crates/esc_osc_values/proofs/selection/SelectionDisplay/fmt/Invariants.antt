use Rattle.std.proofs.Common.{◌≡◌, take}
use Rattle.std.specs.Fmt.{HasWritten, IsPlainFormatter}
use Rattle.std.specs.List.{flat_map}
use Rattle.esc_osc_values.specs.Selections.{letter_text, letters}
use Rattle.esc_osc_values.proofs.selection.SelectionDisplay.fmt.Given as goal

abbrev pub invariant-loop-bit : goal.invariant-loop-bit
invariant-loop-bit g l =
    (l.bit-items ≡ letters)
    × (IsPlainFormatter l.initial.f
    → HasWritten g.W.Write.write_str_gives l.initial.f
    (flat_map (letter_text l.fn.self.0) (take l.bit-index letters)) l.f)
