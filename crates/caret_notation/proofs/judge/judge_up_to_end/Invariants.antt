use Rattle.std.proofs.Common.{ℕ, ◌≡◌, ◌<◌, ◌≤◌, ◌-◌, false, [], length, take}
use Rattle.caret_notation.specs.Judged.{HasJudged, IsQuietTo}
use Rattle.caret_notation.specs.Spans.{is_at_ground}
use Rattle.caret_notation.proofs.judge.judge_up_to_end.Given as goal

abbrev pub invariant-loop-at : goal.invariant-loop-at
invariant-loop-at g l = record {
  within : l.at ≤ length l.bytes;
  judged : (limit : ℕ) → HasJudged g.P.Admit limit [] l.initial.framer l.initial.performer
      → HasJudged g.P.Admit limit (take l.at l.bytes) l.framer l.performer
      × (l.performer.sink.policy.now ≡ l.initial.performer.sink.policy.now);
  quiet : (limit : ℕ) → HasJudged g.P.Admit limit [] l.initial.framer l.initial.performer
      → IsQuietTo l.at l.bytes × (0 < l.at → is_at_ground (take l.at l.bytes) ≡ false);
}

abbrev pub decreases-loop-at : goal.decreases-loop-at
decreases-loop-at g l = length l.bytes - l.at
