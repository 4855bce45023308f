use Rattle.std.proofs.Common.{◌≡◌, length}
use Rattle.std.specs.List.{list_all}
use Rattle.esc_filter.specs.Rules.{is_clean_pair}
use Rattle.esc_filter.proofs.links.are_clean_pairs.Given as goal

-- the pairs that are left are such exactly if all are
abbrev pub invariant-loop-key : goal.invariant-loop-key
invariant-loop-key g l = list_all is_clean_pair l.pairs ≡ list_all is_clean_pair l.initial.pairs

abbrev pub decreases-loop-key : goal.decreases-loop-key
decreases-loop-key g l = length l.pairs
