use Rattle.std.proofs.Common.{◌≡◌, drop}
use Rattle.std.specs.List.{list_all}
use Rattle.typed_functions.specs.Arguments.{is_intermediate}
use Rattle.typed_functions.proofs.numbers.are_intermediates.Given as goal

-- the rest decides
abbrev pub invariant-loop-entry : goal.invariant-loop-entry
invariant-loop-entry l = list_all is_intermediate l.entries
    ≡ list_all is_intermediate (drop l.entry-index l.entries)
