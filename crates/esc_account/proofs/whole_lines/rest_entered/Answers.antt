use Rattle.std.proofs.Common.{rules, [], ◌++◌, drop, subst, sym, append_assoc, append-nil, arith}
use Rattle.esc_filter.specs.Lines.{lines}
use Rattle.esc_account.specs.Ledgers.{LinesRun}
use Rattle.esc_account.proofs.Lines.LedgerHearsMore.{rest_in, rest_none}
use Rattle.esc_account.proofs.whole_lines.rest_entered.Goals as goal

pub loop-at-preserved : goal.loop-at-preserved
loop-at-preserved g c = record {
  line = search rules;
  text = search rules;
  sums = search rules;
  feeds = search rules;
  run = λ es old.
      let r = g.J.Judge.rule c.args.judge.now in
      let before = c.loop-at.invariant.run es old in
      let now = c.in_ok-account.ensures.given (es ++ before.0) before.1 in (
        before.0 ++ now.0,
        subst (g.B.Book.was_given c.line_entered.new.book) (append_assoc es before.0 now.0) now.2,
        λ y gs more.
            subst (λ fs. LinesRun r c.args.account (lines c.args.line.now) (lines c.args.text.now) y
            fs) (sym (append_assoc before.0 now.0 gs))
            (before.2 y (now.0 ++ gs)
            (rest_in r c.loop-at.account c.in_ok-account.account y c.args.line.now c.args.text.now
            c.loop-at.at c.loop-at.to c.first_line-n.result c.first_line-m.result now.0 gs
            c.loop-at-test.true c.first_line-n.ensures.first c.first_line-n.ensures.others
            c.first_line-m.ensures.first c.first_line-m.ensures.others
            c.in_ok-account.ensures.entered now.1 more)),
      );
}

pub returns-clause-run : goal.returns-clause-run
returns-clause-run g c = λ es old.
    let r = g.J.Judge.rule c.args.judge.now in
    let x = c.loop-at.account in
    let before = c.loop-at.invariant.run es old in (
      before.0,
      subst (λ fs. LinesRun r c.args.account (lines c.args.line.now) (lines c.args.text.now) x fs)
          (append-nil before.0)
          (before.2 x [] (rest_none r x c.args.line.now c.loop-at.at
          (lines (drop c.loop-at.to c.args.text.now)) (omega (arith, c.loop-at-test.false)))),
      before.1,
    )
