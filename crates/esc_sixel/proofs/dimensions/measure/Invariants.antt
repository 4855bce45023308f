use Rattle.std.proofs.Common.{◌≡◌, ◌≤◌, ℕ, drop}
use Rattle.std.specs.Prelude.{max}
use Rattle.esc_sixel.specs.Dimensions.{Has, widest_after, last_band}
use Rattle.esc_sixel.proofs.dimensions.measure.Given as goal

abbrev pub invariant-loop-item : goal.invariant-loop-item
invariant-loop-item l =
    (best : ℕ) × (n : ℕ) × (b : ℕ) × (f : ℕ) × Has l.extent best n b f × (n ≤ best)
    × (max best (widest_after n (drop l.item-index l.content)) ≡ widest_after 0 l.content)
    × (last_band b f (drop l.item-index l.content) ≡ last_band 1 0 l.content)
