use Rattle.std.proofs.Common.{◌≡◌, ◌≤◌, ◌+◌, ◌-◌, ◌++◌, length, take}
use Rattle.esc_sixel.specs.Meaning.{drawn_data}
use Rattle.esc_sixel.proofs.pixels.fill.Given as goal

-- the bytes so far are appended, and there is room for the rest
abbrev pub invariant-by_block : goal.invariant-by_block
invariant-by_block g l = record {
  within : l.at ≤ length l.run;
  items : l.vec.items ≡ l.fn.vec.items ++ drawn_data (take l.at l.run);
  room : l.vec.len + length l.run ≤ l.vec.cap + l.at;
}

abbrev pub decreases-by_block : goal.decreases-by_block
decreases-by_block g l = length l.run - l.at

abbrev pub invariant-by_four : goal.invariant-by_four
invariant-by_four g l = record {
  within : l.at ≤ length l.run;
  items : l.vec.items ≡ l.fn.vec.items ++ drawn_data (take l.at l.run);
  room : l.vec.len + length l.run ≤ l.vec.cap + l.at;
}

abbrev pub decreases-by_four : goal.decreases-by_four
decreases-by_four g l = length l.run - l.at

abbrev pub invariant-by_two : goal.invariant-by_two
invariant-by_two g l = record {
  within : l.at ≤ length l.run;
  items : l.vec.items ≡ l.fn.vec.items ++ drawn_data (take l.at l.run);
  room : l.vec.len + length l.run ≤ l.vec.cap + l.at;
}

abbrev pub decreases-by_two : goal.decreases-by_two
decreases-by_two g l = length l.run - l.at

abbrev pub invariant-loop-at : goal.invariant-loop-at
invariant-loop-at g l = record {
  within : l.at ≤ length l.run;
  items : l.vec.items ≡ l.fn.vec.items ++ drawn_data (take l.at l.run);
  room : l.vec.len + length l.run ≤ l.vec.cap + l.at;
}

abbrev pub decreases-loop-at : goal.decreases-loop-at
decreases-loop-at g l = length l.run - l.at
