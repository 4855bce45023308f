use Rattle.std.proofs.Common.{◌≡◌, ◌≤◌, ◌+◌, List, length}
use Rattle.esc_account.specs.Accounts.{total}
use Rattle.esc_account.specs.Entries.{Entry}
use Rattle.esc_account.specs.Finished.{Finishes, Takes}
use Rattle.esc_account.proofs.account.Account.finished_entered.Given as goal

abbrev pub invariant-loop-longer : goal.invariant-loop-longer
invariant-loop-longer g l = record {
  sums : total l.account.sums + length l.rest ≡ total l.fn.self.sums + length l.bytes;
  lines : l.account.lines + length l.rest ≤ l.fn.self.lines + length l.bytes;
  few : length l.rest ≤ length l.bytes;
  finishes : (fs : List Entry)
      × Finishes l.ends (g.J.Judge.rule l.judge) l.fn.self l.bytes l.rest l.account fs
      × Takes g.B.Book l.fn.book fs l.book;
}

abbrev pub decreases-loop-longer : goal.decreases-loop-longer
decreases-loop-longer g l = length l.rest
