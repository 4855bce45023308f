use Rattle.std.proofs.Common.{◌++◌, OnOk, subst, arith, length-append}
use Rattle.esc_account.specs.Ledgers.{Keeps}
use Rattle.esc_account.proofs.Entries.LedgerIsGiven.{never}
use Rattle.esc_account.proofs.Lines.BytesAreTheSame.{ok_given}
use Rattle.esc_account.proofs.Lines.LedgerHearsMore.{stands_room}
use Rattle.esc_account.proofs.line_ledger.LineLedgerTap.hear.Goals as goal

pub returns-then-not-has_room-clause-heard : goal.returns-then-not-has_room-clause-heard
returns-then-not-has_room-clause-heard g c = λ s t before few.
    let k = c.args.self.now in
    let b = c.args.bytes.now in
    let h = before (omega (arith, few, length-append s b)) in
    let room = stands_room (g.J.Judge.rule k.judge) (g.B.Book.was_given k.book) k.account
    k.line.items k.text.items s t b h.0 few in
    absurd (never c.has_room.result
    (c.has_room.ensures.1 (omega (arith, room, c.len.ensures))) c.if-not-has_room.true)

pub returns-clause-heard : goal.returns-clause-heard
returns-clause-heard g c = λ s t before.
    let b = c.args.bytes.now in
    ok_given _ _ c.take.result
    (λ few. subst (λ v. OnOk c.take.result
    (Keeps g.J.Judge g.B.Book c.take.new.self (s ++ b) (t ++ v))) c.as_bytes.ensures.value
    (c.take.ensures.keeps s t (before (omega (arith, few, length-append s b)))))
