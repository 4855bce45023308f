use Rattle.std.proofs.Common.{◌≡◌, ◌++◌, drop, map}
use Rattle.flat_values.proofs.read_lists.items.Given as goal

abbrev pub invariant-loop-field : goal.invariant-loop-field
invariant-loop-field g l = map (λ s. g.T.Read.read s.1) l.fields
    ≡ l.items ++ map (λ s. g.T.Read.read s.1) (drop l.field-index l.fields)
