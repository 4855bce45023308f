use Rattle.std.proofs.Common.{◌++◌, false, subst, sym, arith, length-append}
use Rattle.esc_account.specs.Accounts.{begun}
use Rattle.esc_account.specs.Finished.{Finishes}
use Rattle.esc_account.proofs.Entries.FinishedAreEntered.{finishes_more, finishes_room}
use Rattle.esc_account.proofs.Entries.LedgerIsGiven.{never}
use Rattle.esc_account.proofs.Lines.BytesAreTheSame.{ok_given}
use Rattle.esc_account.proofs.ledger.LedgerTap.hear.Goals as goal

pub returns-then-not-has_room-clause-heard : goal.returns-then-not-has_room-clause-heard
returns-then-not-has_room-clause-heard g c = λ s t before few.
    let k = c.args.self.now in
    let b = c.args.bytes.now in
    let h = before (omega (arith, few, length-append s b)) in
    let room = finishes_room (g.J.Judge.rule k.judge) k.account s k.rest.items b h.0 h.1 few in
    absurd (never c.has_room.result
    (c.has_room.ensures.1 (omega (arith, room, c.len.ensures))) c.if-not-has_room.true)

pub returns-in-Ok-clause-heard : goal.returns-in-Ok-clause-heard
returns-in-Ok-clause-heard g c = λ s t before.
    let k = c.args.self.now in
    let r = g.J.Judge.rule k.judge in
    let b = c.args.bytes.now in
    ok_given _ _ c.look_in_time.result
    (λ few.
    let h = before (omega (arith, few, length-append s b)) in
    c.look_in_time.ensures.hears (s ++ b) (
      h.0,
      subst (λ v. Finishes false r begun (s ++ b) v k.account h.0)
          (sym c.in-Ok.ensures.items)
          (finishes_more r begun k.account s k.rest.items b h.0 h.1),
      h.2,
    ))
