-- The failures of streams, by a test of each fate.
use Rattle.std.proofs.Common.{ℕ, ◌≡◌, ◌<◌, ◌++◌, ◌∷◌, ◌∙◌, ◌↔◌, Bool, true, false, IsTrue, List, [], refl, sym, ap, arith}
use Rattle.std.specs.Prelude.{◌||◌}
use Rattle.std.specs.List.{list_any}
use Rattle.std.proofs.lemmas.List.Folds.{list_any-append}
use Rattle.std.proofs.lemmas.Bool.{lt-ltb, ltb-true}
use Rattle.std.proofs.lemmas.Bool.Decides.{nat_tests}
use Rattle.esc_account.specs.Accounts.{count_of}
use Rattle.esc_account.specs.declared.fate.Fate.{Fate}
use Rattle.esc_account.specs.declared.fate.Fate.TheVariants as fates
use Rattle.esc_account.specs.declared.sums.Sums.{Sums}
use Rattle.escfilter.specs.declared.failing.Failing.{Failing}
use Rattle.escfilter.specs.declared.failing.Gate.{Gate}
use Rattle.escfilter.specs.Failures.{HasFailure, WasTold, are_met, fails, has_failure, less}
use Rattle.escfilter.specs.Fates.{IsComplete}

met_both : (a : Bool) (n : ℕ) → are_met a n ≡ true → (a ≡ true) × (0 < n)
met_both true n h = (refl, ltb-true 0 n h)
met_both false n h = grind arith

both_met : (a : Bool) (n : ℕ) → a ≡ true → 0 < n → are_met a n ≡ true
both_met a n is many = rw is (lt-ltb 0 n many)

either : {P : Type 0} (a b : Bool) → (a || b) ≡ true → (a ≡ true → P) → (b ≡ true → P) → P
either true b h f g = f refl
either false b h f g = g h

right : (a b : Bool) → b ≡ true → (a || b) ≡ true
right true b h = refl
right false b h = h

one : (a b : Bool) → (a || b) ≡ (a || (b || false))
one true b = refl
one false true = refl
one false false = refl

has : (k : Failing) (s : Sums) (f : Fate) → (fails k f ≡ true) × (0 < count_of f s)
    → HasFailure k s
has k s f m = (f, m.0, m.1)

failure_of : (k : Failing) (s : Sums) → has_failure k s ≡ true → HasFailure k s
failure_of k s h =
    either (are_met k.respelled s.respelled) _ h
    (λ is. has k s fates.Respelled (met_both k.respelled s.respelled is)) (λ h.
    either (are_met k.shown s.shown) _ h
    (λ is. has k s fates.Shown (met_both k.shown s.shown is)) (λ h.
    either (are_met k.replaced s.replaced) _ h
    (λ is. has k s fates.Replaced (met_both k.replaced s.replaced is)) (λ h.
    either (are_met k.left_out s.left_out) _ h
    (λ is. has k s fates.LeftOut (met_both k.left_out s.left_out is)) (λ h.
    either (are_met k.swallowed s.swallowed) _ h
    (λ is. has k s fates.Swallowed (met_both k.swallowed s.swallowed is))
    (λ is. has k s fates.Overwritten (met_both k.overwritten s.overwritten is))))))

failure_is_so : (k : Failing) (s : Sums) (f : Fate) → fails k f ≡ true → 0 < count_of f s
    → has_failure k s ≡ true
failure_is_so k s fates.Passed is many = grind arith
failure_is_so k s fates.Respelled is many =
    rw (both_met k.respelled s.respelled is many) refl
failure_is_so k s fates.Shown is many =
    right (are_met k.respelled s.respelled) _ (rw (both_met k.shown s.shown is many) refl)
failure_is_so k s fates.Replaced is many =
    right (are_met k.respelled s.respelled) _ (right (are_met k.shown s.shown) _
    (rw (both_met k.replaced s.replaced is many) refl))
failure_is_so k s fates.LeftOut is many =
    right (are_met k.respelled s.respelled) _ (right (are_met k.shown s.shown) _
    (right (are_met k.replaced s.replaced) _ (rw (both_met k.left_out s.left_out is many) refl)))
failure_is_so k s fates.Swallowed is many =
    right (are_met k.respelled s.respelled) _ (right (are_met k.shown s.shown) _
    (right (are_met k.replaced s.replaced) _ (right (are_met k.left_out s.left_out) _
    (rw (both_met k.swallowed s.swallowed is many) refl))))
failure_is_so k s fates.Overwritten is many =
    right (are_met k.respelled s.respelled) _ (right (are_met k.shown s.shown) _
    (right (are_met k.replaced s.replaced) _ (right (are_met k.left_out s.left_out) _
    (right (are_met k.swallowed s.swallowed) _ (both_met k.overwritten s.overwritten is many)))))

pub failure_is : (k : Failing) (s : Sums) (b : Bool) → b ≡ has_failure k s
    → IsTrue b ↔ HasFailure k s
failure_is k s b is = (
  (λ t. failure_of k s (sym is ∙ t)),
  (λ h. is ∙ failure_is_so k s h.0 h.1 h.2),
)

pub told_more : (k : Failing) (xs : List Sums) (s : Sums) (g : Gate) (b : Bool)
    → b ≡ has_failure g.failing s → WasTold k xs g
    → (g.failing ≡ k) × ((g.is_met || b) ≡ list_any (has_failure k) (xs ++ s ∷ []))
told_more k xs s g b is was = (
  was.0,
  ap (λ c. g.is_met || c) is ∙ ap (λ c. c || has_failure g.failing s) was.1
      ∙ ap (λ f. list_any (has_failure k) xs || has_failure f s) was.0
      ∙ one (list_any (has_failure k) xs) (has_failure k s)
      ∙ sym (list_any-append (has_failure k) xs (s ∷ [])),
)

-- ---- that nothing is missing

neither : (a b : Bool) → (a || b) ≡ false → (a ≡ false) × (b ≡ false)
neither true b h = absurd cc
neither false b h = (refl, h)

none_met : (n : ℕ) → are_met true n ≡ false → n ≡ 0
none_met n h = grind (arith, nat_tests)

pub complete_is : (s : Sums) → (has_failure less s ≡ false) ↔ IsComplete s
complete_is s = (there, λ z. rw (z.0, z.1, z.2, z.3, z.4) refl)
  where
    there : has_failure less s ≡ false → IsComplete s
    there h =
        let a = neither (are_met true s.shown) _ h in
        let b = neither (are_met true s.replaced) _ a.1 in
        let c = neither (are_met true s.left_out) _ b.1 in
        let d = neither (are_met true s.swallowed) (are_met true s.overwritten) c.1 in (
          none_met s.shown a.0,
          none_met s.replaced b.0,
          none_met s.left_out c.0,
          none_met s.swallowed d.0,
          none_met s.overwritten d.1,
        )
