use Rattle.std.proofs.Common.{◌≡◌, ◌-◌, drop, take}
use Rattle.esc_screen.specs.Resized.{resized_each}
use Rattle.esc_screen.proofs.rows.resized_each.Given as goal

abbrev pub invariant-loop-i : goal.invariant-loop-i
invariant-loop-i g l =
    l.all.items ≡ resized_each l.columns (take (l.i - l.from) (drop l.from l.rows.items))
