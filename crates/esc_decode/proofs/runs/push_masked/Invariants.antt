use Rattle.std.proofs.Common.{◌≡◌, ◌++◌, ◌≤◌, ◌-◌, length, take}
use Rattle.esc_decode.specs.Masks.{begun_after, masked_after}
use Rattle.esc_frame.specs.Machine.Prefixes.{prefix_of}
use Rattle.esc_decode.proofs.runs.push_masked.Given as goal

abbrev pub invariant-loop-at : goal.invariant-loop-at
invariant-loop-at g l = record {
  within : l.at ≤ length l.bytes;
  masked : l.text.items
      ≡ l.fn.text.items ++ masked_after (prefix_of l.fn.begun) (take l.at l.bytes);
  last : prefix_of l.last ≡ begun_after (prefix_of l.fn.begun) (take l.at l.bytes);
}

abbrev pub decreases-loop-at : goal.decreases-loop-at
decreases-loop-at g l = length l.bytes - l.at
