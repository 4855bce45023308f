use Rattle.std.proofs.Common.{◌-◌, ◌≤◌, length, take}
use Rattle.std.specs.List.{All}
use Rattle.esc_sixel.specs.Classes.{IsPixels}
use Rattle.esc_sixel.proofs.pixels.pixels_run.Given as goal

abbrev pub invariant-by_block : goal.invariant-by_block
invariant-by_block l = (l.end ≤ length l.bytes) × All IsPixels (take l.end l.bytes)

abbrev pub decreases-by_block : goal.decreases-by_block
decreases-by_block l = length l.bytes - l.end

abbrev pub invariant-loop-end : goal.invariant-loop-end
invariant-loop-end l = (l.end ≤ length l.bytes) × All IsPixels (take l.end l.bytes)

abbrev pub decreases-loop-end : goal.decreases-loop-end
decreases-loop-end l = length l.bytes - l.end
