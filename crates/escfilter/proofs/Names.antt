-- The names of openers, as bytes are passed over.
use Rattle.std.proofs.Common.{ℕ, zero, suc, ◌≡◌, ◌<◌, ◌≤◌, true, false, List, [], ◌∷◌, length, get_or, drop, refl, codes, arith}
use Rattle.escfilter.specs.Names.{is_passed_over, opened_by, opener}

pub passed_on : (s : List ℕ) (i : ℕ) → i < length s → is_passed_over (get_or s i 0) ≡ true
    → opened_by (drop i s) ≡ opened_by (drop (suc i) s)
passed_on [] i few h = absurd (omega (arith, few))
passed_on (b ∷ s) zero few h = rw h refl
passed_on (b ∷ s) (suc i) few h = passed_on s i (omega (arith, few)) h

pub opens_here : (s : List ℕ) (i : ℕ) → i < length s → is_passed_over (get_or s i 0) ≡ false
    → opened_by (drop i s) ≡ opener (get_or s i 0)
opens_here [] i few h = absurd (omega (arith, few))
opens_here (b ∷ s) zero few h = rw h refl
opens_here (b ∷ s) (suc i) few h = opens_here s i (omega (arith, few)) h

pub none_opens : (s : List ℕ) (i : ℕ) → length s ≤ i → opened_by (drop i s) ≡ codes "ESC"
none_opens [] zero few = refl
none_opens [] (suc i) few = refl
none_opens (b ∷ s) zero few = absurd (omega (arith, few))
none_opens (b ∷ s) (suc i) few = none_opens s i (omega (arith, few))
