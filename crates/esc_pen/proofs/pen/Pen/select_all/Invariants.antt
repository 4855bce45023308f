use Rattle.std.proofs.Common.{◌≡◌}
use Rattle.esc_pen.specs.Pens.{pen_by_all}
use Rattle.typed_functions.specs.Selections.{renditions_left}
use Rattle.esc_pen.proofs.pen.Pen.select_all.Given as goal

abbrev pub invariant-loop-selection : goal.invariant-loop-selection
invariant-loop-selection l =
    pen_by_all l.self (renditions_left l.selection-iterator)
    ≡ pen_by_all l.fn.self (renditions_left l.fn.renditions)
