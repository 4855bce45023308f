use Rattle.std.proofs.Common.{◌≡◌, ◌≤◌, take}
use Rattle.esc_account.specs.Accounts.{feeds}
use Rattle.esc_account.proofs.feeds.feeds_of_few.Given as goal

abbrev pub invariant-loop-b : goal.invariant-loop-b
invariant-loop-b l = record {
  few : l.count ≤ l.b-index;
  counted : l.count ≡ feeds (take l.b-index l.bytes);
}
