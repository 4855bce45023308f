use Rattle.std.proofs.Common.{◌≡◌, take}
use Rattle.esc_frame.specs.Bodies.{capped_at_i64, value_after}
use Rattle.esc_frame.proofs.unfinished.header.number_of.Given as goal

abbrev pub invariant-loop-b : goal.invariant-loop-b
invariant-loop-b l = l.number ≡ capped_at_i64 (value_after 0 (take l.b-index l.osc_unit))
