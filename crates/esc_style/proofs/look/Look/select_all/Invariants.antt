use Rattle.std.proofs.Common.{◌≡◌}
use Rattle.esc_style.specs.Looks.{look_by_all}
use Rattle.typed_functions.specs.Selections.{renditions_left}
use Rattle.esc_style.proofs.look.Look.select_all.Given as goal

abbrev pub invariant-loop-selection : goal.invariant-loop-selection
invariant-loop-selection l =
    look_by_all l.self (renditions_left l.selection-iterator)
    ≡ look_by_all l.fn.self (renditions_left l.fn.renditions)
