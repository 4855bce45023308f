use Rattle.std.proofs.Common.{◌≡◌, [], ◌++◌, List, OnOk, length, subst, sym, ap, ◌∙◌, arith, length-append}
use Rattle.esc_filter.specs.Lines.{lines}
use Rattle.esc_account.specs.Accounts.{total}
use Rattle.esc_account.specs.Entries.{Entry}
use Rattle.esc_account.specs.Ledgers.{IsLineAccount, LinesRun}
use Rattle.esc_account.proofs.Entries.LedgerIsGiven.{never}
use Rattle.esc_account.proofs.Lines.BytesAreTheSame.{ok_given}
use Rattle.esc_account.proofs.Lines.LedgerHearsMore.{end_told, stands_room}
use Rattle.esc_account.proofs.line_ledger.LineLedgerTap.hear_end.Goals as goal

pub returns-then-not-has_room-clause-ended : goal.returns-then-not-has_room-clause-ended
returns-then-not-has_room-clause-ended g c = λ s t before few.
    let k = c.args.self.now in
    let h = before few in
    let room = stands_room (g.J.Judge.rule k.judge) (g.B.Book.was_given k.book) k.account
    k.line.items k.text.items s t [] h.0 (omega (arith, few, length-append s [])) in
    absurd (never c.has_room.result
    (c.has_room.ensures.1 (omega (arith, room, c.len.ensures))) c.if-not-has_room.true)

pub returns-in-Ok-clause-ended : goal.returns-in-Ok-clause-ended
returns-in-Ok-clause-ended g c = λ s t before.
    let k = c.args.self.now in
    let q = c.enter_rest.new.self in
    let r = g.J.Judge.rule k.judge in
    let P = g.B.Book.was_given k.book in
    let Q = g.B.Book.was_given q.book in
    let u = c.args.text.now in
    let all = c.in-Ok.ensures.items ∙ ap (λ v. k.text.items ++ v) c.as_bytes.ensures.value in
    ok_given _ _ c.enter_rest.result
    (λ few.
    let h = (before few).0 in
    subst (λ j. OnOk c.enter_rest.result ((total q.account.sums ≡ length s)
    × ((es : List Entry) × IsLineAccount (g.J.Judge.rule j) s (t ++ u) q.account es × Q es)))
    (sym c.enter_rest.ensures.same.0)
    (end_told c.enter_rest.result r P Q k.account q.account k.line.items k.text.items s t u h
    (subst (λ v. OnOk c.enter_rest.result ((fs : List Entry)
    × LinesRun r k.account (lines k.line.items) (lines v) q.account fs × Q (h.made ++ fs))) all
    (c.enter_rest.ensures.run h.made h.given)) c.enter_rest.ensures.counts))
