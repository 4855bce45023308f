use Rattle.std.proofs.Common.{◌≡◌, map, take}
use Rattle.xtgettcap.specs.Names.{name_of}
use Rattle.xtgettcap.proofs.builder.read_names.Given as goal

abbrev pub invariant-loop-slice : goal.invariant-loop-slice
invariant-loop-slice g l =
    l.names.items ≡ map name_of (map (λ p. p.now) (take l.slice-index l.slices))
