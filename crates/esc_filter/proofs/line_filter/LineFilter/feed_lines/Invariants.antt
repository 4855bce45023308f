use Rattle.std.proofs.Common.{length, take, ◌-◌, ◌≡◌, ◌≤◌, ℕ, List}
use Rattle.esc_filter.specs.Lines.{GrowsBy, HasConsumedLines, policy_of_lines}
use Rattle.esc_filter.specs.declared.guard.Guard.{Guard}
use Rattle.esc_filter.proofs.line_filter.LineFilter.feed_lines.Given as goal

abbrev pub invariant-loop-at : goal.invariant-loop-at
invariant-loop-at g l = record {
  within : l.at ≤ length l.bytes;
  policy : policy_of_lines l.self ≡ policy_of_lines l.fn.self;
  grown : (u : Guard) (limit : ℕ) (s : List ℕ)
      → HasConsumedLines u limit (g.P.Admit.admits (policy_of_lines l.fn.self)) s l.fn.self
      → GrowsBy u (g.P.Admit.admits (policy_of_lines l.fn.self)) limit s (take l.at l.bytes)
      l.fn.self l.self;
}

abbrev pub decreases-loop-at : goal.decreases-loop-at
decreases-loop-at g l = length l.bytes - l.at
