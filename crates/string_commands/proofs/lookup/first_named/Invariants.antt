use Rattle.std.proofs.Common.{◌≡◌, drop, map}
use Rattle.string_commands.specs.Rows.{first_named}
use Rattle.string_commands.proofs.lookup.first_named.Given as goal

-- the rest decides
abbrev pub invariant-loop-at : goal.invariant-loop-at
invariant-loop-at l = first_named l.name (map (λ n. n.now) l.names) 0
    ≡ first_named l.name (drop l.at (map (λ n. n.now) l.names)) l.at
