use Rattle.std.proofs.Common.{◌≡◌, ◌∷◌, ◌++◌, take}
use Rattle.std.specs.List.{flat_map}
use Rattle.esc_osc_values.proofs.read_items.joined.Given as goal

abbrev pub invariant-loop-part : goal.invariant-loop-part
invariant-loop-part g l = l.bytes.items ≡ l.initial.bytes.items ++ flat_map (λ q.
    0x3b ∷ q.now) (take l.part-index l.rest)
