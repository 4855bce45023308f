-- Rows that are scrolled off.
use Rattle.std.proofs.Common.{ℕ, suc, zero, ◌≡◌, ◌+◌, ◌-◌, ◌==◌, ◌≤◌, min, nat_lt, inl, inr, not, ◌&&◌, List, [], ◌∷◌, ◌++◌, length, map, take, drop, replicate, if◌then◌else◌, refl, ap, sym, ◌∙◌, append_assoc, arith}
use Rattle.std.proofs.lemmas.Bool.{and_parts, cases_Bool}
use Rattle.std.proofs.lemmas.Bool.Decides.{nat_tests}
use Rattle.std.proofs.lemmas.List.{length-take, take-append-drop, take-take, take_all}
use Rattle.esc_screen.specs.Cells.{cleared_cells}
use Rattle.esc_screen.specs.Grids.{Grid, Size}
use Rattle.esc_screen.specs.Lists.{in_part, moved_up, times}
use Rattle.esc_screen.specs.Printing.{before, repeated_content}
use Rattle.esc_screen.specs.Scrolled.{GoesOffInChunks, IsInParts, LosesNothing, off_by, off_from, printing}
use Rattle.esc_screen.specs.Steps.{grid_by, grid_from}
use Rattle.esc_screen.specs.declared.content.Content.{Content}
use Rattle.esc_screen.specs.declared.content.Content.TheVariants as content
use Rattle.esc_screen.specs.declared.step.Step.{Step}
use Rattle.esc_screen.specs.declared.step.Step.TheVariants as step

-- ---- rows that move up

take_both : {X : Type 0} (n b : ℕ) (xs : List X) → take n (take b xs) ≡ take (min n b) xs
take_both n b xs =
    elim (cases_Bool (nat_lt n b)) [
      | inl held ↦
          let less : n ≤ b = grind (arith, nat_tests) in
          let is : n ≡ min n b = omega (arith, less) in
          take-take n b xs less ∙ ap (λ k. take k xs) is
      | inr failed ↦
          let more : b ≤ n = grind (arith, nat_tests) in
          let is : b ≡ min n b = omega (arith, more) in
          let few : length (take b xs) ≤ n = omega (arith, more, length-take b xs) in
          take_all n (take b xs) few ∙ ap (λ k. take k xs) is
    ]

pub take_within : {X : Type 0} (n : ℕ) (xs : List X) → take (min n (length xs)) xs ≡ take n xs
take_within n xs =
    let few : length xs ≤ length xs = omega arith in
    sym (take_both n (length xs) xs) ∙ ap (take n) (take_all (length xs) xs few)

-- those that leave, and then those that are left, are those that were there
kept_up : {X : Type 0} (n b : ℕ) (f : List X → List X) (xs : List X)
    → take (min n b) xs ++ in_part 0 b (moved_up n f) xs
    ≡ take b xs ++ (f (take (min n b) xs) ++ drop b xs)
kept_up n b f xs =
    let r = take b xs in
    let rest = drop b xs in
    let all : b - 0 ≡ b = omega arith in
    ap (λ k. take (min n b) xs ++ (moved_up n f (take k xs) ++ drop k xs)) all
    ∙ ap (λ z. z ++ ((drop n r ++ f (take n r)) ++ rest)) (sym (take_both n b xs))
    ∙ ap (λ z. take n r ++ z) (append_assoc (drop n r) (f (take n r)) rest)
    ∙ sym (append_assoc (take n r) (drop n r) (f (take n r) ++ rest))
    ∙ ap (λ z. z ++ (f (take n r) ++ rest)) (take-append-drop n r)
    ∙ ap (λ z. r ++ (f z ++ rest)) (take_both n b xs)

pub loses_nothing : LosesNothing
loses_nothing n g h =
    let f = map (cleared_cells g.cursor.erased) in
    let b = g.bottom in
    let first = (and_parts (not g.alternate) (g.top == 0) h).1 in
    let top : g.top ≡ 0 = grind (arith, nat_tests, first) in
    let gone : (if (not g.alternate && g.top == 0) then min n b else 0) ≡ min n b =
    ap (λ t. if t then min n b else 0) h in
    ap (λ k. take k g.rows ++ in_part g.top b (moved_up n f) g.rows) gone
    ∙ ap (λ t. take (min n b) g.rows ++ in_part t b (moved_up n f) g.rows) top
    ∙ kept_up n b f g.rows
    ∙ ap (λ k. take b g.rows ++ (f (take k g.rows) ++ drop b g.rows)) (sym gone)

pub off_in_chunks : GoesOffInChunks
off_in_chunks s g [] ys = refl
off_in_chunks s g (x ∷ xs) ys =
    let h = grid_by s g x in
    ap (λ z. off_by s g x ++ z) (off_in_chunks s h xs ys)
    ∙ sym (append_assoc (off_by s g x) (off_from s h xs) (off_from s (grid_from s h xs) ys))

-- ---- REP

times_first : {X : Type 0} (n : ℕ) (f : X → X) (x : X) → times n f (f x) ≡ f (times n f x)
times_first zero f x = refl
times_first (suc n) f x = ap f (times_first n f x)

times_is : (s : Size) (n : ℕ) (x : Step) (g : Grid)
    → times n (λ h. grid_by s h x) g ≡ grid_from s g (replicate n x)
times_is s zero x g = refl
times_is s (suc n) x g =
    sym (times_first n (λ h. grid_by s h x) g) ∙ times_is s n x (grid_by s g x)

none_is : (s : Size) (n : ℕ) (g : Grid) → g ≡ grid_from s g (replicate n step.Nothing)
none_is s zero g = refl
none_is s (suc n) g = none_is s n g

pub in_parts : IsInParts
in_parts s g (step.Print c) = refl
in_parts s g (step.PrintWide c) = refl
in_parts s g (step.Mark c) = refl
in_parts s g (step.Repeat n) = of_content (before g)
  where
    k : ℕ
    k = min n s.columns

    of_content : (x : Content)
        → repeated_content s k x g ≡ grid_from s g (replicate k (printing x))
    of_content content.Blank = none_is s k g
    of_content (content.Narrow c m) = times_is s k (step.Print c) g
    of_content (content.Wide c m) = times_is s k (step.PrintWide c) g
    of_content content.Rest = none_is s k g
in_parts s g (step.Move x) = refl
in_parts s g (step.Edit x) = refl
in_parts s g (step.Set x) = refl
in_parts s g step.Nothing = refl
