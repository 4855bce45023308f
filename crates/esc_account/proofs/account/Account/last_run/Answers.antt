use Rattle.std.proofs.Common.{◌≡◌, ◌++◌, ◌&&◌, IfOk, OnErr, OnOk, [], false, length, drop, ap, sym, ◌∙◌, subst, arith}
use Rattle.esc_frame.specs.Segments.{joined_bytes}
use Rattle.esc_parse.proofs.Lists.StepsOverLists.{if_ok_more}
use Rattle.fallible_alloc.specs.Refusals.{Refused}
use Rattle.esc_account.specs.Accounts.{Counts, Enters}
use Rattle.esc_account.specs.Entries.{noted_entries}
use Rattle.esc_account.specs.LineEnds.{is_return_feed, line_entries, run_line}
use Rattle.esc_account.proofs.Entries.FinishedAreEntered.{takes_none}
use Rattle.esc_account.proofs.Entries.LineIsEntered.{entries_end, noted_last, one_left, run_end, run_last}
use Rattle.esc_account.proofs.account.Account.last_run.Goals as goal

pub returns-then-is_end-clause-entered : goal.returns-then-is_end-clause-entered
returns-then-is_end-clause-entered g c = λ gs cut.
    c.passed.ensures.passed
    ∙ sym (run_end c.args.ends (g.J.Judge.rule c.args.judge.now) c.args.self c.args.rest.now gs cut
    (sym c.is_end.ensures ∙ c.if-is_end.true))

pub returns-then-is_end-clause-given : goal.returns-then-is_end-clause-given
returns-then-is_end-clause-given g c = λ gs es cut old.
    subst (λ v. g.B.Book.was_given c.args.book.now (es ++ noted_entries v))
    (sym (entries_end c.args.ends (g.J.Judge.rule c.args.judge.now) c.args.self c.args.rest.now gs
    cut (sym c.is_end.ensures ∙ c.if-is_end.true)))
    (takes_none (g.B.Book.was_given c.args.book.now) es old)

pub returns-in-None-clause-entered : goal.returns-in-None-clause-entered
returns-in-None-clause-entered g c = λ gs cut.
    ap (run_line c.args.ends (g.J.Judge.rule c.args.judge.now) c.args.self)
    (sym (c.in-None.ensures.first gs cut))

pub returns-in-None-clause-counts : goal.returns-in-None-clause-counts
returns-in-None-clause-counts g c =
    let k = c.has_cut.ensures c.args.rest.now in
    let none : c.args.rest.now ≡ [] = k.1.whole ∙ ap joined_bytes (c.in-None.ensures.first k.0 k.1)
    in
    ((omega (arith, ap length none), omega (arith, ap length none)), tt)

pub returns-in-None-clause-given : goal.returns-in-None-clause-given
returns-in-None-clause-given g c = λ gs es cut old.
    subst (λ v. g.B.Book.was_given c.args.book.now
    (es ++ noted_entries (line_entries c.args.ends (g.J.Judge.rule c.args.judge.now) c.args.self
    v)))
    (sym (c.in-None.ensures.first gs cut))
    (takes_none (g.B.Book.was_given c.args.book.now) es old)

pub returns-in-Some-clause-entered : goal.returns-in-Some-clause-entered
returns-in-Some-clause-entered g c = λ gs cut.
    let ends = c.args.ends in
    let r = g.J.Judge.rule c.args.judge.now in
    let s = c.args.rest.now in
    let item = c.in-Some.segment in
    let some : (ends && is_return_feed s) ≡ false = sym c.is_end.ensures ∙ c.if-is_end.false in
    let one = one_left ends s (drop (length item.bytes.now) s) item gs c.requires.room.1 some cut
    (c.in-Some.ensures.first gs cut) in
    if_ok_more (Enters r c.args.self item) (λ y. y ≡ run_line ends r c.args.self gs)
    c.segment_entered.result (λ y h. run_last ends r c.args.self y s item gs cut some one h)
    c.segment_entered.ensures.entered

pub returns-in-Some-clause-counts : goal.returns-in-Some-clause-counts
returns-in-Some-clause-counts g c =
    let s = c.args.rest.now in
    let item = c.in-Some.segment in
    let some : (c.args.ends && is_return_feed s) ≡ false =
    sym c.is_end.ensures ∙ c.if-is_end.false in
    let k = c.has_cut.ensures s in
    let one = one_left c.args.ends s (drop (length item.bytes.now) s) item k.0 c.requires.room.1
    some k.1 (c.in-Some.ensures.first k.0 k.1) in
    subst (λ v. IfOk c.segment_entered.result (Counts c.args.self (length v))
    × OnErr c.segment_entered.result (Refused g.row.A.Denot)) one.3
    c.segment_entered.ensures.counts

pub returns-in-Some-clause-given : goal.returns-in-Some-clause-given
returns-in-Some-clause-given g c = λ gs es cut old.
    let ends = c.args.ends in
    let r = g.J.Judge.rule c.args.judge.now in
    let s = c.args.rest.now in
    let item = c.in-Some.segment in
    let some : (ends && is_return_feed s) ≡ false = sym c.is_end.ensures ∙ c.if-is_end.false in
    let one = one_left ends s (drop (length item.bytes.now) s) item gs c.requires.room.1 some cut
    (c.in-Some.ensures.first gs cut) in
    noted_last ends r c.args.self s item gs cut some one
    (λ fs. OnOk c.segment_entered.result (g.B.Book.was_given c.segment_entered.new.book fs)) es
    (λ h hs each is. c.segment_entered.ensures.given h hs es each is old)
