use Rattle.std.proofs.Common.{◌≡◌, drop, map}
use Rattle.string_commands.specs.Rows.{first_fit}
use Rattle.string_commands.proofs.lookup.first_fit.Given as goal

-- the rest decides
abbrev pub invariant-loop-at : goal.invariant-loop-at
invariant-loop-at l =
    first_fit l.kind l.key l.params l.text l.entries (map (λ s. s.now) l.starts) 0
    ≡ first_fit l.kind l.key l.params l.text (drop l.at l.entries)
    (drop l.at (map (λ s. s.now) l.starts)) l.at
