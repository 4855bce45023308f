use Rattle.std.proofs.Common.{◌≡◌, drop}
use Rattle.std.specs.List.{flat_map}
use Rattle.flat_values.specs.Fields.{with_fields}
use Rattle.flat_values.proofs.fielded.append_each.Given as goal

-- the table with the fields of the rest of the items is the result
abbrev pub invariant-loop-item : goal.invariant-loop-item
invariant-loop-item g l = with_fields l.initial.fields (flat_map g.T.Fielded.parts l.items)
    ≡ with_fields l.fields (flat_map g.T.Fielded.parts (drop l.item-index l.items))
