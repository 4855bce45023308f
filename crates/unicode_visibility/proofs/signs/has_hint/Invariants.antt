use Rattle.std.proofs.Common.{◌≡◌, ◌-◌, false, drop}
use Rattle.unicode_visibility.specs.Signs.{has_hint}
use Rattle.unicode_visibility.proofs.signs.has_hint.Given as goal

-- if the bytes from this place on have none, all have none
abbrev pub invariant-loop-at : goal.invariant-loop-at
invariant-loop-at l = has_hint (drop l.at l.fn.bytes) ≡ false → has_hint l.fn.bytes ≡ false

abbrev pub decreases-loop-at : goal.decreases-loop-at
decreases-loop-at l = l.last - l.at
