use Rattle.std.proofs.Common.{◌≡◌, Some, ap, sym, ◌∙◌}
use Rattle.esc_sanitize.specs.Sanitized.{account_in}
use Rattle.esc_calls.proofs.Known.{if_known}
use Rattle.esc_calls.specs.AccountRows.{row_of}
use Rattle.esc_calls.specs.Kept.{sanitizer_in}
use Rattle.esc_calls.proofs.sanitizer_chunks.sanitizer_account.Goals as goal

pub returns-clause-told : goal.returns-clause-told
returns-clause-told c = λ done.
    let is = c.in-Some.ensures.some
    ∙ ap Some (sym c.deref_mut.ensures.value ∙ c.in-Sanitizer.is) in
    let row = c.from_account.ensures ∙ ap row_of c.account.ensures in (
      if_known (λ z. c.from_account.result ≡ row_of (account_in z))
          (sanitizer_in c.args.sanitizer.now.held.kept) c.in-Sanitizer.state.sanitizer
          (ap sanitizer_in is) row,
      record { kept = c.of.ensures.begun ∙ sym is; begun = search },
    )
