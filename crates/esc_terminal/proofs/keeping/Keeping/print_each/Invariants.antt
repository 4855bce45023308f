use Rattle.std.proofs.Common.{map, take}
use Rattle.std.specs.List.{FoldsTo}
use Rattle.esc_actions.specs.declared.action.Action.TheVariants as action
use Rattle.esc_terminal.specs.Kept.{KeepsAction}
use Rattle.esc_terminal.proofs.keeping.Keeping.print_each.Given as goal

-- each so far was printed
abbrev pub invariant-loop-b : goal.invariant-loop-b
invariant-loop-b g l = FoldsTo (KeepsAction g.R.Rows.takes) l.fn.self
    (map action.Print (take l.b-index l.text)) l.self
