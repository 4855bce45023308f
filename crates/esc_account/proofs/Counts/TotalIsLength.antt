-- The sums of an account.
use Rattle.std.proofs.Common.{ℕ, ◌≡◌, ◌+◌, List, [], ◌∷◌, length, arith, length-append}
use Rattle.esc_frame.specs.Segments.{Segment as Shape, bytes_of, is_finished, joined_bytes}
use Rattle.esc_account.specs.Accounts.{Rule, sums_with, begun, run, step, total}
use Rattle.esc_account.specs.declared.account.Account.{Account}
use Rattle.esc_account.specs.declared.fate.Fate.{Fate}
use Rattle.esc_account.specs.declared.fate.Fate.TheVariants as fates
use Rattle.esc_account.specs.declared.sums.Sums.{Sums}

pub total_added : (f : Fate) (n : ℕ) (x : Sums) → total (sums_with f n x) ≡ total x + n
total_added fates.Passed n x = omega arith
total_added fates.Respelled n x = omega arith
total_added fates.Shown n x = omega arith
total_added fates.Replaced n x = omega arith
total_added fates.LeftOut n x = omega arith
total_added fates.Swallowed n x = omega arith
total_added fates.Overwritten n x = omega arith

pub total_run : (r : Rule) (x : Account) (gs : List Shape)
    → total (run r x gs).sums ≡ total x.sums + length (joined_bytes gs)
total_run r x [] = omega arith
total_run r x (g ∷ gs) =
    let y = step r x g (is_finished g (joined_bytes gs)) in
    let i = total_run r y gs in
    let a : total y.sums ≡ total x.sums + length (bytes_of g) =
    total_added _ (length (bytes_of g)) x.sums in
    omega (arith, i, a, length-append (bytes_of g) (joined_bytes gs))

-- the total of a whole stream
pub total_all : (r : Rule) (gs : List Shape) → total (run r begun gs).sums
    ≡ length (joined_bytes gs)
total_all r gs = omega (arith, total_run r begun gs)
