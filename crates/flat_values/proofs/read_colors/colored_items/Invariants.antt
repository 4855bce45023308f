use Rattle.std.proofs.Common.{◌≡◌, ◌++◌, drop}
use Rattle.flat_values.specs.Found.{held_form}
use Rattle.flat_values.specs.FoundItems.{items_after, nothing}
use Rattle.flat_values.proofs.read_colors.colored_items.Given as goal

abbrev pub invariant-loop-field : goal.invariant-loop-field
invariant-loop-field g l = items_after held_form g.T.Colored.colored nothing l.fields
    ≡ l.items ++ items_after held_form g.T.Colored.colored l.before (drop l.field-index l.fields)
