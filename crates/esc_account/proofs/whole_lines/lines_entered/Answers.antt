use Rattle.std.proofs.Common.{rules}
use Rattle.esc_account.proofs.Lines.LedgerHearsMore.{lines_in}
use Rattle.esc_account.proofs.whole_lines.lines_entered.Goals as goal

pub loop-n-preserved : goal.loop-n-preserved
loop-n-preserved g c =
    let l = c.loop-n.found in record {
      line = search rules;
      text = search rules;
      sums = search rules;
      feeds = search rules;
      stands = λ s t before.
          lines_in (g.J.Judge.rule c.args.judge.now) (g.B.Book.was_given c.loop-n.book)
          (g.B.Book.was_given c.line_entered.new.book) l.account c.in_ok-entered.entered
          c.same_passed-same.result.0 c.args.line.now c.args.text.now s t l.at l.to c.in-Some.n
          c.in-Some.m c.same_passed-same.result.1 (c.loop-n.invariant.stands s t before)
          c.in-Some.ensures.lines.0 c.in-Some.ensures.lines.1 c.in_ok-entered.ensures.entered
          c.in_ok-entered.ensures.counts.0 c.in_ok-entered.ensures.given
          c.same_passed-same.ensures.passed c.same_passed-same.ensures.counts.0
          c.same_passed-same.ensures.counts.2;
    }
