use Rattle.std.proofs.Common.{ℕ, ◌≡◌, ◌≤◌, ◌-◌, ◌++◌, List, length, take}
use Rattle.caret_notation.specs.Judged.{HasJudged}
use Rattle.caret_notation.proofs.judge.judge_all.Given as goal

abbrev pub invariant-loop-at : goal.invariant-loop-at
invariant-loop-at g l = record {
  within : l.at ≤ length l.bytes;
  judged : (limit : ℕ) (s : List ℕ)
      → HasJudged g.P.Admit limit s l.initial.framer l.initial.performer
      → HasJudged g.P.Admit limit (s ++ take l.at l.bytes) l.framer l.performer
      × (l.performer.sink.policy.now ≡ l.initial.performer.sink.policy.now);
}

abbrev pub decreases-loop-at : goal.decreases-loop-at
decreases-loop-at g l = length l.bytes - l.at
