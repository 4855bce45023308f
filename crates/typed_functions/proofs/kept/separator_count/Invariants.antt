use Rattle.std.proofs.Common.{◌≡◌, ◌≤◌, ◌+◌, drop}
use Rattle.typed_functions.specs.Selections.{separator_count}
use Rattle.typed_functions.proofs.kept.separator_count.Given as goal

-- those that were seen, and those that are left; no more were seen than entries
abbrev pub invariant-loop-entry : goal.invariant-loop-entry
invariant-loop-entry l =
    (separator_count l.entries ≡ l.count + separator_count (drop l.entry-index l.entries))
    × (l.count ≤ l.entry-index)
