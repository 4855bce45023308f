use Rattle.std.proofs.Common.{◌≡◌, length}
use Rattle.unicode_visibility.specs.Signs.{has_sign}
use Rattle.unicode_visibility.proofs.signs.has_sign.Given as goal

-- the rest has a sign if the whole has
abbrev pub invariant-loop-first : goal.invariant-loop-first
invariant-loop-first l = has_sign l.rest ≡ has_sign l.fn.bytes

abbrev pub decreases-loop-first : goal.decreases-loop-first
decreases-loop-first l = length l.rest
