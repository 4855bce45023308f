use Rattle.std.proofs.Common.{◌-◌, ◌≡◌, ◌≤◌, take}
use Rattle.esc_account.proofs.same_lines.same_bytes.Given as goal

abbrev pub invariant-loop-at : goal.invariant-loop-at
invariant-loop-at l = record {
  few : l.at ≤ l.most;
  same : take l.at l.bytes ≡ take l.at l.text;
}

abbrev pub decreases-loop-at : goal.decreases-loop-at
decreases-loop-at l = l.most - l.at

abbrev pub invariant-loop-at-2 : goal.invariant-loop-at-2
invariant-loop-at-2 l = record {
  few : l.at ≤ l.most;
  same : take l.at l.bytes ≡ take l.at l.text;
}

abbrev pub decreases-loop-at-2 : goal.decreases-loop-at-2
decreases-loop-at-2 l = l.most - l.at

abbrev pub invariant-loop-at-3 : goal.invariant-loop-at-3
invariant-loop-at-3 l = record {
  few : l.at ≤ l.most;
  same : take l.at l.bytes ≡ take l.at l.text;
}

abbrev pub decreases-loop-at-3 : goal.decreases-loop-at-3
decreases-loop-at-3 l = l.most - l.at
