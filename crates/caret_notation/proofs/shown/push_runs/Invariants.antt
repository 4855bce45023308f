use Rattle.std.proofs.Common.{◌≡◌, ◌++◌, ◌≤◌, ◌-◌, length, take}
use Rattle.esc_frame.specs.Machine.Prefixes.{prefix_of}
use Rattle.caret_notation.specs.Visible.{begun_after, settled_text}
use Rattle.caret_notation.proofs.shown.push_runs.Given as goal

abbrev pub invariant-loop-at : goal.invariant-loop-at
invariant-loop-at g l = record {
  within : l.at ≤ length l.bytes;
  shown : l.text.items
      ≡ l.fn.text.items ++ settled_text (prefix_of l.fn.begun) (take l.at l.bytes);
  last : prefix_of l.last ≡ begun_after (prefix_of l.fn.begun) (take l.at l.bytes);
}

abbrev pub decreases-loop-at : goal.decreases-loop-at
decreases-loop-at g l = length l.bytes - l.at
