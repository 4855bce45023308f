use Rattle.std.proofs.Common.{◌≡◌, map, take}
use Rattle.esc_osc_values.proofs.read_items.copied.Given as goal

abbrev pub invariant-loop-part : goal.invariant-loop-part
invariant-loop-part g l = l.made.items ≡ map (λ p. p.now) (take l.part-index l.parts)
