use Rattle.std.proofs.Common.{ℕ, ◌-◌, ◌≤◌, Bool, length, take}
use Rattle.esc_filter.specs.declared.guard.Guard.{Guard}
use Rattle.esc_account.specs.Passing.{IsPassing}
use Rattle.esc_account.specs.Rules.{rule_of}
use Rattle.esc_account.proofs.text.text_run.Given as goal

abbrev pub invariant-loop-at : goal.invariant-loop-at
invariant-loop-at g l = record {
  few : l.at ≤ length l.bytes;
  pass : (by_lines : Bool) (u : Guard) (limit : ℕ)
      → IsPassing (rule_of by_lines u limit (g.P.Admit.admits l.policy)) l.fn.before
      (take l.at l.bytes) l.last;
}

abbrev pub decreases-loop-at : goal.decreases-loop-at
decreases-loop-at g l = length l.bytes - l.at
