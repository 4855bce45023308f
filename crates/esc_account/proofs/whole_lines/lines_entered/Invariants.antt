use Rattle.std.proofs.Common.{ℕ, ◌≡◌, ◌≤◌, ◌+◌, ◌-◌, List, drop, length}
use Rattle.esc_account.specs.Accounts.{total}
use Rattle.esc_account.specs.Ledgers.{Stands}
use Rattle.esc_account.proofs.whole_lines.lines_entered.Given as goal

abbrev pub invariant-loop-n : goal.invariant-loop-n
invariant-loop-n g l = record {
  line : l.found.at ≤ length l.line;
  text : l.found.to ≤ length l.text;
  sums : total l.found.account.sums ≡ total l.fn.account.sums + l.found.at;
  feeds : l.found.account.lines ≤ l.fn.account.lines + l.found.at;
  stands : (s t : List ℕ)
      → Stands (g.J.Judge.rule l.judge) (g.B.Book.was_given l.initial.book) l.fn.account l.line
      l.text s t
      → Stands (g.J.Judge.rule l.judge) (g.B.Book.was_given l.book) l.found.account
      (drop l.found.at l.line) (drop l.found.to l.text) s t;
}

abbrev pub decreases-loop-n : goal.decreases-loop-n
decreases-loop-n g l = length l.line - l.found.at
