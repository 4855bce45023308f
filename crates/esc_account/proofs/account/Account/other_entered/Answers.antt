use Rattle.std.proofs.Common.{◌++◌, [], List, drop, length}
use Rattle.esc_account.specs.Entries.{Entry}
use Rattle.esc_account.proofs.Entries.FinishedAreEntered.{finishes_item, finishes_none, takes_none}
use Rattle.esc_account.proofs.account.Account.other_entered.Goals as goal

pub returns-in-None-clause-finishes : goal.returns-in-None-clause-finishes
returns-in-None-clause-finishes g c = (
  [],
  finishes_none c.args.ends (g.J.Judge.rule c.args.judge.now) c.args.self c.args.bytes.now,
  λ es old. takes_none (g.B.Book.was_given c.args.book.now) es old,
)

pub returns-in-Ok-clause-finishes : goal.returns-in-Ok-clause-finishes
returns-in-Ok-clause-finishes g c =
    let s = c.args.bytes.now in
    let some = c.in-Some.ensures.some in
    finishes_item c.has_cut.ensures c.args.ends (g.J.Judge.rule c.args.judge.now) c.args.self
    c.in-Ok.longer s (drop (length c.in-Some.segment.bytes.now) s) c.in-Some.segment
    c.in-Some.ensures.first some.2 some.3 c.in-Ok.ensures.entered
    (λ fs. (es : List Entry) → g.B.Book.was_given c.args.book.now es
    → g.B.Book.was_given c.segment_entered.new.book (es ++ fs))
    (λ h hs each is es old. c.in-Ok.ensures.given h hs es each is old)
