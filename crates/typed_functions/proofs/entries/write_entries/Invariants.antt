use Rattle.std.proofs.Common.{take}
use Rattle.std.specs.Fmt.{IsPlainFormatter, HasWritten}
use Rattle.std.specs.List.{flat_map}
use Rattle.esc_values.specs.Params.{param_text}
use Rattle.typed_functions.proofs.entries.write_entries.Given as goal

abbrev pub invariant-loop-entry : goal.invariant-loop-entry
invariant-loop-entry g l = IsPlainFormatter l.initial.f
    → HasWritten g.W.Write.write_str_gives l.initial.f
    (flat_map param_text (take l.entry-index l.entries)) l.f
