use Rattle.std.proofs.Common.{[], false, length, subst, sym, ap, ◌∙◌, arith, length-append}
use Rattle.esc_account.specs.Accounts.{begun, total}
use Rattle.esc_account.specs.Finished.{Finishes}
use Rattle.esc_account.proofs.Counts.TotalIsLength.{total_all}
use Rattle.esc_account.proofs.Entries.FinishedAreEntered.{finishes_all, finishes_room}
use Rattle.esc_account.proofs.Entries.LedgerIsGiven.{never}
use Rattle.esc_account.proofs.ledger.LedgerTap.hear_end.Goals as goal

pub returns-then-not-has_room-clause-ended : goal.returns-then-not-has_room-clause-ended
returns-then-not-has_room-clause-ended g c = λ s t before few.
    let k = c.args.self.now in
    let h = before few in
    let room = finishes_room (g.J.Judge.rule k.judge) k.account s k.rest.items [] h.0 h.1
    (omega (arith, few, length-append s [])) in
    absurd (never c.has_room.result
    (c.has_room.ensures.1 (omega (arith, room, c.len.ensures))) c.if-not-has_room.true)

pub returns-in-Ok-clause-ended : goal.returns-in-Ok-clause-ended
returns-in-Ok-clause-ended g c = λ s t before few.
    let k = c.args.self.now in
    let r = g.J.Judge.rule k.judge in
    let x = c.in-Ok.account in
    let h = before few in
    let rest = c.deref.result.now in
    let cut = c.has_cut.ensures rest in
    let all = finishes_all r begun k.account x s rest h.0
    (subst (λ v. Finishes false r begun s v k.account h.0) (sym c.deref.ensures.value) h.1) cut.0
    cut.1
    (c.in-Ok.ensures.entered cut.0 cut.1) in (
      ap (λ v. total v.sums) all.2 ∙ total_all r all.0 ∙ ap length (sym all.1.whole),
      (
        all.0,
        all.1,
        all.2,
        subst (g.B.Book.was_given c.entered.new.book) all.3
            (c.in-Ok.ensures.given cut.0 h.0 cut.1 h.2),
      ),
    )
