use Rattle.std.proofs.Common.{◌≡◌, ◌∷◌, map, drop}
use Rattle.esc_iterm.specs.Files.{pairs_of}
use Rattle.esc_iterm.specs.Keys.{values, no_values, held_after}
use Rattle.esc_iterm.proofs.read_file.read_slices.Given as goal

-- the values so far, with those of the slice and of the rest, are those of all the slices
abbrev pub invariant-loop-next : goal.invariant-loop-next
invariant-loop-next l =
    held_after (values l.keys) (pairs_of (l.slice ∷ map (λ p. p.now) (drop l.next-index l.rest)))
    ≡ held_after no_values (pairs_of (l.fn.first ∷ map (λ p. p.now) l.rest))
