use Rattle.std.proofs.Common.{Bool, length, take, ◌-◌, ◌≡◌, ◌≤◌, ℕ, List}
use Rattle.esc_filter.specs.Lines.{HasConsumedLines}
use Rattle.esc_filter.specs.Resumed.{GrowsResumed, IsMarked, policy_of_resuming}
use Rattle.esc_filter.specs.declared.guard.Guard.{Guard}
use Rattle.esc_filter.proofs.resuming.ResumingFilter.feed_lines.Given as goal

abbrev pub invariant-loop-at : goal.invariant-loop-at
invariant-loop-at g l = record {
  within : l.at ≤ length l.bytes;
  policy : policy_of_resuming l.self ≡ policy_of_resuming l.fn.self;
  grown : (k : Bool) (u : Guard) (limit : ℕ) (d : List ℕ)
      → HasConsumedLines u limit (g.P.Admit.admits (policy_of_resuming l.fn.self)) d l.fn.self.lines
      → IsMarked k u limit (g.P.Admit.admits (policy_of_resuming l.fn.self)) d l.fn.self
      → GrowsResumed k u (g.P.Admit.admits (policy_of_resuming l.fn.self)) limit d
      (take l.at l.bytes) l.fn.self l.self;
}

abbrev pub decreases-loop-at : goal.decreases-loop-at
decreases-loop-at g l = length l.bytes - l.at
