use Rattle.std.proofs.Common.{false, ◌++◌, drop, subst, sym}
use Rattle.esc_account.specs.Accounts.{begun}
use Rattle.esc_account.specs.Finished.{Finishes}
use Rattle.esc_account.proofs.Entries.FinishedAreEntered.{finishes_both}
use Rattle.esc_account.proofs.ledger.Ledger.enter_finished.Goals as goal

pub returns-in-Ok-clause-hears : goal.returns-in-Ok-clause-hears
returns-in-Ok-clause-hears g c = λ s h.
    let k = c.args.self.now in
    let r = g.J.Judge.rule k.judge in
    let n = c.in-Ok.count in
    let y = c.in-Ok.account in
    let one = c.in-Ok.ensures.finishes in (
      h.0 ++ one.0,
      subst (λ v. Finishes false r begun s v y (h.0 ++ one.0)) (sym c.leave_out_first.ensures)
          (finishes_both false r begun k.account y s k.rest.items (drop n k.rest.items) h.0 one.0
          h.1 (subst (λ v. Finishes false r k.account v (drop n v) y one.0) c.deref.ensures.value
          one.1)),
      one.2 h.0 h.2,
    )
