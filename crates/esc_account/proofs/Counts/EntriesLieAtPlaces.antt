-- The places of entries.
use Rattle.std.proofs.Common.{ℕ, ◌≡◌, ◌+◌, List, [], ◌∷◌, ◌++◌, length, refl, ap, ◌∙◌, subst, append_assoc, arith, length-append}
use Rattle.esc_frame.specs.Segments.{Segment as Shape, bytes_of, is_finished, joined_bytes}
use Rattle.esc_account.specs.Accounts.{Rule, feeds, step, total}
use Rattle.esc_account.specs.Entries.{AllLie, entries}
use Rattle.esc_account.specs.declared.account.Account.{Account}
use Rattle.esc_account.proofs.Counts.FeedsAddUp.{feeds_more}
use Rattle.esc_account.proofs.Counts.TotalIsLength.{total_added}

pub all_lie : (r : Rule) (x : Account) (before : List ℕ) (gs : List Shape)
    → length before ≡ total x.sums → feeds before ≡ x.lines
    → AllLie (before ++ joined_bytes gs) (entries r x gs)
all_lie r x before [] h n = tt
all_lie r x before (g ∷ gs) h n =
    let y = step r x g (is_finished g (joined_bytes gs)) in
    let a : total y.sums ≡ total x.sums + length (bytes_of g) =
    total_added _ (length (bytes_of g)) x.sums in (
      (before, joined_bytes gs, refl, h, n),
      subst (λ s. AllLie s (entries r y gs)) (append_assoc before (bytes_of g) (joined_bytes gs))
          (all_lie r y (before ++ bytes_of g) gs
          (omega (arith, h, a, length-append before (bytes_of g)))
          (feeds_more before (bytes_of g) ∙ ap (λ k. k + feeds (bytes_of g)) n)),
    )
