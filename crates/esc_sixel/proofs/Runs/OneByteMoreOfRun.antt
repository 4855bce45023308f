-- One more byte of a run.
use Rattle.std.proofs.Common.{◌≡◌, ◌≢◌, ℕ, zero, suc, ◌+◌, ◌-◌, ◌*◌, ◌<◌, ◌==◌, min, false, List, [], ◌∷◌, ◌++◌, get_or, length, set, Option}
use Rattle.std.proofs.Common.{Some, None, refl, sym, ap, ◌∙◌, arith, inl, inr}
use Rattle.std.specs.Option.{option_map, unwrap_or}
use Rattle.std.proofs.lemmas.Bool.{eqb-false, eqb-true, cases_Bool}
use Rattle.std.proofs.lemmas.List.{get_or-set_same, get_or-set_other}
use Rattle.std.proofs.lemmas.Bool.{ne_eqb}
use Rattle.esc_sixel.specs.Runs.{numbers_after, param, separators}
use Rattle.esc_values.specs.Params.{capped_at_i64}

next_end : (n : Option ℕ) (k : ℕ) → get_or (n ∷ None ∷ []) k None ≡ get_or (n ∷ []) k None
next_end n zero = refl
next_end n (suc zero) = refl
next_end n (suc (suc k)) = refl

cons_ap : (n : Option ℕ) (xs ys : List (Option ℕ)) (k : ℕ)
    → ((j : ℕ) → get_or xs j None ≡ get_or ys j None)
    → get_or (n ∷ xs) k None ≡ get_or (n ∷ ys) k None
cons_ap n xs ys zero h = refl
cons_ap n xs ys (suc k) h = h k

pub numbers_next : (n : Option ℕ) (run : List ℕ) (k : ℕ)
    → get_or (numbers_after n (run ++ 59 ∷ [])) k None ≡ get_or (numbers_after n run) k None
numbers_next n [] k = next_end n k
numbers_next n (b ∷ run) k = elim (cases_Bool (b == 59)) [
  | inl e ↦ rw e (cons_ap n _ _ k (λ j. numbers_next None run j))
  | inr e ↦ rw e (numbers_next (Some (10 * unwrap_or n 0 + (b - 48))) run k)
]

pub semicolons_next : (run : List ℕ) → separators (run ++ 59 ∷ []) ≡ separators run + 1
semicolons_next [] = refl
semicolons_next (b ∷ run) = elim (cases_Bool (b == 59)) [
  | inl e ↦ rw e (ap (λ n. n + 1) (semicolons_next run))
  | inr e ↦ rw e (semicolons_next run)
]

pub semicolons_digit : (run : List ℕ) (d : ℕ) → (d == 59) ≡ false
    → separators (run ++ d ∷ []) ≡ separators run
semicolons_digit [] d h = rw h refl
semicolons_digit (b ∷ run) d h = elim (cases_Bool (b == 59)) [
  | inl e ↦ rw e (ap (λ n. n + 1) (semicolons_digit run d h))
  | inr e ↦ rw e (semicolons_digit run d h)
]

-- a digit goes to the last number
cons_here : (n : Option ℕ) (xs ys : List (Option ℕ)) (d s k : ℕ)
    → ((j : ℕ) → j ≡ s → get_or xs j None ≡ Some (10 * unwrap_or (get_or ys j None) 0 + (d - 48)))
    → k ≡ s + 1 → get_or (n ∷ xs) k None ≡ Some (10 * unwrap_or (get_or (n ∷ ys) k None) 0
    + (d - 48))
cons_here n xs ys d s zero h e = absurd (omega (arith, e))
cons_here n xs ys d s (suc k) h e = h k (omega (arith, e))

pub digit_here : (n : Option ℕ) (run : List ℕ) (d k : ℕ) → (d == 59) ≡ false → k ≡ separators run
    → get_or (numbers_after n (run ++ d ∷ [])) k None
    ≡ Some (10 * unwrap_or (get_or (numbers_after n run) k None) 0 + (d - 48))
digit_here n [] d zero h e = rw h refl
digit_here n [] d (suc k) h e = absurd (omega (arith, e))
digit_here n (b ∷ run) d k h e = elim (cases_Bool (b == 59)) [
  | inl t ↦ rw t (cons_here n _ _ d (separators run) k (λ j f. digit_here None run d j h f)
      (rw t at e))
  | inr t ↦ rw t (digit_here (Some (10 * unwrap_or n 0 + (b - 48))) run d k h (rw t at e))
]

cons_else : (n : Option ℕ) (xs ys : List (Option ℕ)) (s k : ℕ)
    → ((j : ℕ) → j ≢ s → get_or xs j None ≡ get_or ys j None)
    → k ≢ s + 1 → get_or (n ∷ xs) k None ≡ get_or (n ∷ ys) k None
cons_else n xs ys s zero h e = refl
cons_else n xs ys s (suc k) h e = h k (λ f. e (omega (arith, f)))

pub digit_else : (n : Option ℕ) (run : List ℕ) (d k : ℕ) → (d == 59) ≡ false → k ≢ separators run
    → get_or (numbers_after n (run ++ d ∷ [])) k None ≡ get_or (numbers_after n run) k None
digit_else n [] d zero h e = absurd (e refl)
digit_else n [] d (suc k) h e = rw h refl
digit_else n (b ∷ run) d k h e = elim (cases_Bool (b == 59)) [
  | inl t ↦ rw t (cons_else n _ _ (separators run) k (λ j f. digit_else None run d j h f)
      (rw t at e))
  | inr t ↦ rw t (digit_else (Some (10 * unwrap_or n 0 + (b - 48))) run d k h (rw t at e))
]

-- the parameters
pub param_next : (run : List ℕ) (k : ℕ) → param (run ++ 59 ∷ []) k ≡ param run k
param_next run k = ap (option_map capped_at_i64) (numbers_next None run k)

pub param_else : (run : List ℕ) (d k : ℕ) → (d == 59) ≡ false → k ≢ separators run
    → param (run ++ d ∷ []) k ≡ param run k
param_else run d k h e = ap (option_map capped_at_i64) (digit_else None run d k h e)

held_more : (o : Option ℕ) (d : ℕ) (m : Option ℕ) → option_map capped_at_i64 o ≡ m
    → capped_at_i64 (10 * unwrap_or o 0 + d) ≡ capped_at_i64 (10 * unwrap_or m 0 + d)
held_more None d m e = rw (sym e) refl
held_more (Some n) d m e = rw (sym e) (omega arith)

pub param_here : (run : List ℕ) (d k : ℕ) → (d == 59) ≡ false → k ≡ separators run
    → param (run ++ d ∷ []) k ≡ Some (capped_at_i64 (10 * unwrap_or (param run k) 0 + (d - 48)))
param_here run d k h e =
    ap (option_map capped_at_i64) (digit_here None run d k h e)
    ∙ ap Some (held_more (get_or (numbers_after None run) k None) (d - 48) (param run k) refl)

pub digit_is_none : (d : ℕ) → d < 10 → (d + 48 == 59) ≡ false
digit_is_none d h = ne_eqb (d + 48) 59 (λ e. omega (arith, e))

-- one more digit in the array
pub keeps_digit : (values : List (Option ℕ)) (count d number : ℕ) (run : List ℕ) → length values ≡ 5
    → d < 10 → count < 5
    → ((k : ℕ) → k < 5 → get_or values k None ≡ param run k) → count ≡ min (separators run) 5
    → number ≡ capped_at_i64 (10 * unwrap_or (param run count) 0 + d)
    → (k : ℕ) → k < 5
    → get_or (set values count (Some number)) k None ≡ param (run ++ (d + 48) ∷ []) k
keeps_digit values count d number run five small room was at is k low =
    elim (cases_Bool (k == count)) [
      | inl t ↦
          let e : k ≡ count = eqb-true k count t in
          let s : k ≡ separators run = omega arith in
          let minus : (d + 48) - 48 ≡ d = omega arith in
          ap (λ j. get_or (set values count (Some number)) j None) e
          ∙ get_or-set_same values count (Some number) None (omega arith)
          ∙ ap Some (is ∙ ap (λ j. capped_at_i64 (10 * unwrap_or (param run j) 0 + d)) (sym e))
          ∙ ap (λ x. Some (capped_at_i64 (10 * unwrap_or (param run k) 0 + x))) (sym minus)
          ∙ sym (param_here run (d + 48) k (digit_is_none d small) s)
      | inr t ↦
          let e : k ≢ count = eqb-false k count t in
          let s : k ≢ separators run = λ f. e (omega (arith, f)) in
          get_or-set_other values count k (Some number) None e ∙ was k low
          ∙ sym (param_else run (d + 48) k (digit_is_none d small) s)
    ]
