use Rattle.std.proofs.Common.{◌≡◌, ◌≤◌, ◌+◌, ◌-◌, ◌++◌, List, drop, length}
use Rattle.esc_filter.specs.Lines.{lines}
use Rattle.esc_account.specs.Accounts.{total}
use Rattle.esc_account.specs.Entries.{Entry}
use Rattle.esc_account.specs.Ledgers.{LinesRun}
use Rattle.esc_account.specs.declared.account.Account.{Account}
use Rattle.esc_account.proofs.whole_lines.rest_entered.Given as goal

abbrev pub invariant-loop-at : goal.invariant-loop-at
invariant-loop-at g l = record {
  line : l.at ≤ length l.line;
  text : l.to ≤ length l.text;
  sums : total l.account.sums ≡ total l.initial.account.sums + l.at;
  feeds : l.account.lines ≤ l.initial.account.lines + l.at;
  run : (es : List Entry) → g.B.Book.was_given l.initial.book es
      → (fs : List Entry) × g.B.Book.was_given l.book (es ++ fs)
      × ((y : Account) (gs : List Entry)
      → LinesRun (g.J.Judge.rule l.judge) l.account (lines (drop l.at l.line))
      (lines (drop l.to l.text)) y gs
      → LinesRun (g.J.Judge.rule l.judge) l.initial.account (lines l.line) (lines l.text) y
      (fs ++ gs));
}

abbrev pub decreases-loop-at : goal.decreases-loop-at
decreases-loop-at g l = length l.line - l.at
