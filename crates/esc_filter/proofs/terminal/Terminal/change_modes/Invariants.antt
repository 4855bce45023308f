use Rattle.std.proofs.Common.{◌≡◌, length}
use Rattle.esc_filter.specs.Terminal.{after_params}
use Rattle.esc_filter.proofs.terminal.Terminal.change_modes.Given as goal

-- the rest makes of the changes so far the changes that the whole makes
abbrev pub invariant-loop-first : goal.invariant-loop-first
invariant-loop-first l =
    after_params l.change l.rest l.self ≡ after_params l.change l.initial.rest l.initial.self

abbrev pub decreases-loop-first : goal.decreases-loop-first
decreases-loop-first l = length l.rest
