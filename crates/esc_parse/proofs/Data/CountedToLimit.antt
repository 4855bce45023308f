-- Data that is counted up to a limit.
use Rattle.std.proofs.Common.{◌≡◌, ℕ, ◌+◌, ◌≤◌, ◌⊎◌, inl, inr, nat_le, min, Bool, true, false, not, if◌then◌else◌, List, [], ◌∷◌, ◌++◌, length, Option, Some}
use Rattle.std.proofs.Common.{None, IfSome}
use Rattle.std.proofs.Common.{refl, ap, sym, ◌∙◌, subst, arith}
use Rattle.std.proofs.Math.Nat.{min-eq_left, min-eq_right, min-le_left}
use Rattle.std.proofs.lemmas.Bool.{cases_lt}
use Rattle.std.proofs.lemmas.Bool.Decides.{nat_tests}
use Rattle.std.proofs.lemmas.List.{length-append}
use Rattle.esc_frame.specs.Limits.{Counts, is_within, kept_within, most}
use Rattle.esc_frame.specs.declared.unfinished.count.Count.{Count}
use Rattle.esc_actions.specs.Groups.{is_entered}
use Rattle.esc_actions.specs.Values.{Mode, datum, plain, in_sixel, in_termcap, in_short, entered, data_count, unhook_values, mode_with_byte, taken_gives}
use Rattle.esc_parse.specs.Fed.{CountsData}

pub zero_within : (limit : Option ℕ) → is_within limit 0 ≡ true
zero_within None = refl
zero_within (Some n) = grind (arith, nat_tests)

past : (limit : Option ℕ) (n k : ℕ) → is_within limit n ≡ false → is_within limit (n + k) ≡ false
past None n k h = absurd cc
past (Some l) n k h = grind (arith, nat_tests)

not_over : (t : Bool) → false ≡ not t → t ≡ true
not_over true h = refl
not_over false h = absurd cc

is_past : (t : Bool) → true ≡ not t → t ≡ false
is_past true h = absurd cc
is_past false h = refl

one_more : (d : List ℕ) (b : ℕ) → length (d ++ b ∷ []) ≡ length d + 1
one_more d b = length-append d (b ∷ [])

-- a byte more is within the limit
pub counts_more : (limit : Option ℕ) (c : Count) (d : List ℕ) (b : ℕ)
    → Counts limit c (length d + 1) → c.is_over ≡ false → CountsData limit c (d ++ b ∷ [])
counts_more limit c d b h e =
    let within : is_within limit (length d + 1) ≡ true =
    not_over (is_within limit (length d + 1)) (sym e ∙ h.over) in (
      subst (λ n. Counts limit c n) (sym (one_more d b)) h,
      ap (is_within limit) (one_more d b)
          ∙ within,
    )

-- or past it
pub passed : (limit : Option ℕ) (c : Count) (d : List ℕ) (b : ℕ) → Counts limit c (length d + 1)
    → c.is_over ≡ true
    → is_within limit (length (d ++ b ∷ [])) ≡ false
passed limit c d b h e =
    ap (is_within limit) (one_more d b) ∙ is_past (is_within limit (length d + 1)) (sym e ∙ h.over)

more_past : (limit : Option ℕ) (d : List ℕ) (b : ℕ) → is_within limit (length d) ≡ false
    → is_within limit (length (d ++ b ∷ [])) ≡ false
more_past limit d b h = ap (is_within limit) (one_more d b) ∙ past limit (length d) 1 h

-- data past the limit stays past it
pub over_stays : (limit : Option ℕ) (m : Mode) (b : ℕ) → is_within limit (data_count m) ≡ false
    → is_within limit (data_count (mode_with_byte m b)) ≡ false
over_stays limit plain b h = h
over_stays limit (in_sixel ps d) b h = more_past limit d b h
over_stays limit (in_termcap d) b h = more_past limit d b h
over_stays limit (in_short ps is f d) b h = more_past limit d b h
over_stays limit entered b h = h

true_false : {P : Type 0} (t : Bool) → t ≡ true → t ≡ false → P
true_false true h k = absurd cc
true_false false h k = absurd cc

-- and gives nothing at its end
pub over_gives : {A : Type 0} (limit : Option ℕ) (m : Mode) → is_within limit (data_count m) ≡ false
    → unhook_values {A = A} limit m ≡ []
over_gives limit plain h = refl
over_gives limit (in_sixel ps d) h = rw h refl
over_gives limit (in_termcap d) h = rw h refl
over_gives limit (in_short ps is f d) h = rw h refl
over_gives limit entered h = true_false (is_within limit 0) (zero_within limit) h

-- data outside a mode gives nothing
pub quiet_put : {A : Type 0} (m : Mode) (b : ℕ) → is_entered m ≡ false
    → taken_gives {A = A} m b ≡ []
quiet_put plain b h = refl
quiet_put (in_sixel ps d) b h = refl
quiet_put (in_termcap d) b h = refl
quiet_put (in_short ps is f d) b h = refl
quiet_put entered b h = absurd cc

-- and within one the byte
pub entered_put : {A : Type 0} (m : Mode) (b : ℕ) → is_entered m ≡ true
    → (taken_gives {A = A} m b ≡ datum b ∷ []) × (mode_with_byte m b ≡ m)
entered_put plain b h = absurd cc
entered_put (in_sixel ps d) b h = absurd cc
entered_put (in_termcap d) b h = absurd cc
entered_put (in_short ps is f d) b h = absurd cc
entered_put entered b h = (refl, refl)

-- the number of bytes kept of a segment and of its data, together
abbrev IsLeast : ℕ → ℕ → ℕ → Type 0
IsLeast x a m = ((x ≡ a) × (a ≤ m)) ⊎ ((x ≡ m) × (m ≤ a))

least_is : (a m : ℕ) → IsLeast (min a m) a m
least_is a m = elim (cases_lt a m) [
  | inl l ↦ let h : a ≤ m = omega (arith, l) in inl (min-eq_left h, h)
  | inr h ↦ inr (min-eq_right h, h)
]

both_full : (p q m : ℕ) → m ≤ p → m ≤ q → min p m ≡ min q m
both_full p q m h k = min-eq_right h ∙ sym (min-eq_right k)

sum_by : (a b x y m : ℕ) → IsLeast x a m → IsLeast y b m → min (x + y) m ≡ min (a + b) m
sum_by a b x y m (inl h) (inl k) = ap (λ n. min (n + y) m) h.0 ∙ ap (λ n. min (a + n) m) k.0
sum_by a b x y m (inl h) (inr k) =
    both_full (x + y) (a + b) m (omega (arith, k.0)) (omega (arith, k.1))
sum_by a b x y m (inr h) k = both_full (x + y) (a + b) m (omega (arith, h.0)) (omega (arith, h.1))

pub kept_sum : (a b x y r : ℕ) → x ≡ min a most → y ≡ min b most → r ≡ min (x + y) most
    → r ≡ min (a + b) most
kept_sum a b x y r e f g =
    g ∙ sum_by a b x y most (subst (λ n. IsLeast n a most) (sym e) (least_is a most))
    (subst (λ n. IsLeast n b most) (sym f) (least_is b most))

fits_one : (a b x y r n : ℕ) → x ≡ min a most → y ≡ min b most → r ≡ min (x + y) most → (a ≡ 0)
    ⊎ (b ≡ 0) → x ≤ n → y ≤ n → r ≤ n
fits_one a b x y r n e f g (inl z) h k =
    let none : x ≡ 0 = e ∙ ap (λ m. min m most) z in
    let few = min-le_left (x + y) most in omega (arith, none, few, g, k)
fits_one a b x y r n e f g (inr z) h k =
    let none : y ≡ 0 = f ∙ ap (λ m. min m most) z in
    let few = min-le_left (x + y) most in omega (arith, none, few, g, h)

-- this is within the limit if one of them is nothing
pub kept_fits : (limit : Option ℕ) (a b x y r : ℕ) → x ≡ min a most → y ≡ min b most
    → r ≡ min (x + y) most → (a ≡ 0) ⊎ (b ≡ 0)
    → IfSome limit (λ n. x ≤ n) → IfSome limit (λ n. y ≤ n) → IfSome limit (λ n. r ≤ n)
kept_fits None a b x y r e f g z h k = tt
kept_fits (Some n) a b x y r e f g z h k = fits_one a b x y r n e f g z h k

kept_at_most : (limit : Option ℕ) (n : ℕ) → IfSome limit (λ l. kept_within limit n ≤ l)
kept_at_most None n = tt
kept_at_most (Some l) n = by (nat_le n l) refl
  where
    by : (t : Bool) → nat_le n l ≡ t → (if t then n else 0) ≤ l
    by true e = grind (arith, nat_tests)
    by false e = omega arith

-- the kept part of data is within the limit
pub data_fits : (limit : Option ℕ) (n r : ℕ) → r ≡ min (kept_within limit n) most
    → IfSome limit (λ m. r ≤ m)
data_fits None n r e = tt
data_fits (Some l) n r e =
    let h : kept_within (Some l) n ≤ l = kept_at_most (Some l) n in
    let few = min-le_left (kept_within (Some l) n) most in omega (arith, e, h, few)
