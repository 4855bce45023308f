use Rattle.std.proofs.Common.{◌≡◌, ◌≤◌, ◌-◌, List, ℕ, length, take}
use Rattle.caret_notation.specs.Fed.{AtRest, GrowsBy, added_by}
use Rattle.caret_notation.proofs.reveal.Reveal.take_open.Given as goal

abbrev pub invariant-loop-at : goal.invariant-loop-at
invariant-loop-at g l = record {
  within : l.at ≤ length l.bytes;
  rule : l.self.rule ≡ l.fn.self.rule;
  grown : (r : List ℕ) → AtRest r l.fn.self
      → GrowsBy g.P.Admit l.fn.self.rule r (take l.at l.bytes) (added_by l.fn.self)
      (added_by l.self) l.self;
}

abbrev pub decreases-loop-at : goal.decreases-loop-at
decreases-loop-at g l = length l.bytes - l.at
