use Rattle.bench.proofs.measure.count.Given as goal

abbrev pub decreases-loop-action : goal.decreases-loop-action
decreases-loop-action l = goal.left-loop-action l
