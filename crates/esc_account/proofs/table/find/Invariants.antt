use Rattle.std.proofs.Common.{◌≡◌, ◌≤◌, false, length, take, ◌-◌}
use Rattle.esc_account.specs.Rows.{has_row}
use Rattle.esc_account.proofs.table.find.Given as goal

abbrev pub decreases-loop-at : goal.decreases-loop-at
decreases-loop-at g l = length l.rows - l.at

abbrev pub invariant-loop-at : goal.invariant-loop-at
invariant-loop-at g l = record {
  within : l.at ≤ length l.rows;
  none : has_row g.N.PartialEq.eq (take l.at l.rows) l.fate l.name ≡ false;
}
