use Rattle.std.proofs.Common.{◌≡◌, length}
use Rattle.esc_filter.specs.Concealed.{conceals}
use Rattle.esc_filter.proofs.concealed.conceals.Given as goal

-- the rest conceals text exactly if the whole does
abbrev pub invariant-loop-first : goal.invariant-loop-first
invariant-loop-first l = conceals l.rest ≡ conceals l.initial.rest

abbrev pub decreases-loop-first : goal.decreases-loop-first
decreases-loop-first l = length l.rest
