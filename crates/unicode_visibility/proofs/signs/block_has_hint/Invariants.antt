use Rattle.std.proofs.Common.{◌≡◌, ◌||◌, drop}
use Rattle.unicode_visibility.specs.Signs.{has_hint}
use Rattle.unicode_visibility.proofs.signs.block_has_hint.Given as goal

-- the hint so far, or in the bytes from this place on, is that of the block
abbrev pub invariant-loop-place : goal.invariant-loop-place
invariant-loop-place l = (l.found || has_hint (drop l.place l.fn.block)) ≡ has_hint l.fn.block
