use Rattle.std.proofs.Common.{◌≡◌, length}
use Rattle.std.specs.List.{flat_map}
use Rattle.flat_values.specs.Fields.{with_fields}
use Rattle.flat_values.specs.Links.{parameter_fields}
use Rattle.flat_values.proofs.append_link.append_parameters.Given as goal

-- the table with the fields of the rest of the pairs is the result
abbrev pub invariant-loop-key : goal.invariant-loop-key
invariant-loop-key l = with_fields l.initial.fields (flat_map parameter_fields l.initial.pairs)
    ≡ with_fields l.fields (flat_map parameter_fields l.pairs)

abbrev pub decreases-loop-key : goal.decreases-loop-key
decreases-loop-key l = length l.pairs
