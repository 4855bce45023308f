-- The items are a cut of the data.
use Rattle.std.proofs.Common.{◌≡◌, ℕ, ◌+◌, List, [], ◌∷◌, ◌++◌, refl, sym, ap, ◌∙◌, append_assoc, arith, inl, inr}
use Rattle.std.specs.List.{flat_map}
use Rattle.std.proofs.lemmas.Bool.Decides.{nat_tests}
use Rattle.std.proofs.lemmas.Bool.{cases_Bool}
use Rattle.esc_sixel.specs.Classes.{class_of}
use Rattle.esc_sixel.specs.Items.{Place, Outside, InRepeat, InRun, in_run, pixels_of}
use Rattle.esc_sixel.specs.Items.{run_of, after_run, first_pixels, items_at, pixels_bytes, bytes_of, IsCut}
use Rattle.esc_sixel.specs.declared.class.Class.{Class}
use Rattle.esc_sixel.specs.declared.class.Class.TheVariants.{Return, Line, Pixels, Introduces, Digit, Separator, Junk}
use Rattle.esc_sixel.specs.declared.introducer.Introducer.TheVariants as introducer

return_is : (b : ℕ) → class_of b ≡ Return → b ≡ 36
unfolding class_of
return_is b e = grind (arith, nat_tests)

line_is : (b : ℕ) → class_of b ≡ Line → b ≡ 45
unfolding class_of
line_is b e = grind (arith, nat_tests)

count_is : (b : ℕ) → class_of b ≡ Introduces introducer.Repeat → b ≡ 33
unfolding class_of
count_is b e = grind (arith, nat_tests)

color_is : (b : ℕ) → class_of b ≡ Introduces introducer.Color → b ≡ 35
unfolding class_of
color_is b e = grind (arith, nat_tests)

raster_is : (b : ℕ) → class_of b ≡ Introduces introducer.Raster → b ≡ 34
unfolding class_of
raster_is b e = grind (arith, nat_tests)

pixels_is : (b v : ℕ) → class_of b ≡ Pixels v → b ≡ v + 63
unfolding class_of
pixels_is b v e = grind (arith, nat_tests)

run_split : (bs : List ℕ) → run_of bs ++ after_run bs ≡ bs
run_split [] = refl
run_split (b ∷ bs) = elim (cases_Bool (in_run (class_of b))) [
  | inl e ↦ rw e (ap (λ r. b ∷ r) (run_split bs))
  | inr e ↦ rw e refl
]

abbrev without_by : Class → ℕ → List ℕ → List ℕ
without_by (Pixels v) b bs = bs
without_by c b bs = b ∷ bs

abbrev without_pixels : List ℕ → List ℕ
without_pixels [] = []
without_pixels (b ∷ bs) = without_by (class_of b) b bs

pixels_by : (b : ℕ) (bs : List ℕ) (c : Class) → class_of b ≡ c
    → pixels_bytes (pixels_of c) ++ without_by c b bs ≡ b ∷ bs
pixels_by b bs (Pixels v) e = ap (λ x. x ∷ bs) (sym (pixels_is b v e))
pixels_by b bs Return e = refl
pixels_by b bs Line e = refl
pixels_by b bs (Introduces m) e = refl
pixels_by b bs (Digit d) e = refl
pixels_by b bs Separator e = refl
pixels_by b bs Junk e = refl

pixels_split : (t : List ℕ) → pixels_bytes (first_pixels t) ++ without_pixels t ≡ t
pixels_split [] = refl
pixels_split (b ∷ bs) = pixels_by b bs (class_of b) refl

-- the beginning of the items of a place
abbrev rest_of : Place → List ℕ → List ℕ
rest_of Outside s = s
rest_of InRun s = after_run s
rest_of InRepeat s = without_pixels (after_run s)

count_whole : (bs rest : List ℕ) → rest ≡ without_pixels (after_run bs)
    → (run_of bs ++ pixels_bytes (first_pixels (after_run bs))) ++ rest ≡ bs
count_whole bs rest e =
    append_assoc (run_of bs) (pixels_bytes (first_pixels (after_run bs))) rest
    ∙ ap (λ r. run_of bs ++ (pixels_bytes (first_pixels (after_run bs)) ++ r)) e
    ∙ ap (λ r. run_of bs ++ r) (pixels_split (after_run bs))
    ∙ run_split bs

abbrev Joins : Place → List ℕ → Type 0
Joins p s = flat_map bytes_of (items_at p s) ≡ rest_of p s

begins_item : (b : ℕ) (bs : List ℕ) (c : Class) → class_of b ≡ c → ((p : Place) → Joins p bs)
    → Joins Outside (b ∷ bs)
begins_item b bs Return e h =
    rw e (ap (λ r. 36 ∷ r) (h Outside) ∙ ap (λ x. x ∷ bs) (sym (return_is b e)))
begins_item b bs Line e h =
    rw e (ap (λ r. 45 ∷ r) (h Outside) ∙ ap (λ x. x ∷ bs) (sym (line_is b e)))
begins_item b bs (Pixels v) e h =
    rw e (ap (λ r. (v + 63) ∷ r) (h Outside) ∙ ap (λ x. x ∷ bs) (sym (pixels_is b v e)))
begins_item b bs (Introduces introducer.Repeat) e h =
    rw e (ap (λ r. 33 ∷ r) (count_whole bs _ (h InRepeat)) ∙ ap (λ x. x ∷ bs) (sym (count_is b e)))
begins_item b bs (Introduces introducer.Color) e h = rw e
    (ap (λ r. 35 ∷ (run_of bs ++ r)) (h InRun) ∙ ap (λ r. 35 ∷ r) (run_split bs)
    ∙ ap (λ x. x ∷ bs) (sym (color_is b e)))
begins_item b bs (Introduces introducer.Raster) e h = rw e
    (ap (λ r. 34 ∷ (run_of bs ++ r)) (h InRun) ∙ ap (λ r. 34 ∷ r) (run_split bs)
    ∙ ap (λ x. x ∷ bs) (sym (raster_is b e)))
begins_item b bs (Digit d) e h = rw e (ap (λ r. b ∷ r) (h Outside))
begins_item b bs Separator e h = rw e (ap (λ r. b ∷ r) (h Outside))
begins_item b bs Junk e h = rw e (ap (λ r. b ∷ r) (h Outside))

-- after a run
in_run_item : (b : ℕ) (bs : List ℕ) (c : Class) → class_of b ≡ c → ((p : Place) → Joins p bs)
    → Joins InRun (b ∷ bs)
in_run_item b bs (Digit d) e h = rw e (h InRun)
in_run_item b bs Separator e h = rw e (h InRun)
in_run_item b bs Return e h = rw e (rw e at (begins_item b bs Return e h))
in_run_item b bs Line e h = rw e (rw e at (begins_item b bs Line e h))
in_run_item b bs (Pixels v) e h = rw e (rw e at (begins_item b bs (Pixels v) e h))
in_run_item b bs (Introduces m) e h = rw e (rw e at (begins_item b bs (Introduces m) e h))
in_run_item b bs Junk e h = rw e (rw e at (begins_item b bs Junk e h))

in_count_item : (b : ℕ) (bs : List ℕ) (c : Class) → class_of b ≡ c → ((p : Place) → Joins p bs)
    → Joins InRepeat (b ∷ bs)
in_count_item b bs (Digit d) e h = rw e (h InRepeat)
in_count_item b bs Separator e h = rw e (h InRepeat)
in_count_item b bs (Pixels v) e h = rw (e, e) (h Outside)
in_count_item b bs Return e h = rw (e, e) (rw e at (begins_item b bs Return e h))
in_count_item b bs Line e h = rw (e, e) (rw e at (begins_item b bs Line e h))
in_count_item b bs (Introduces m) e h = rw (e, e) (rw e at (begins_item b bs (Introduces m) e h))
in_count_item b bs Junk e h = rw (e, e) (rw e at (begins_item b bs Junk e h))

pub joins : (p : Place) (s : List ℕ) → Joins p s
joins Outside [] = refl
joins InRun [] = refl
joins InRepeat [] = refl
joins Outside (b ∷ bs) = begins_item b bs (class_of b) refl (λ p. joins p bs)
joins InRun (b ∷ bs) = in_run_item b bs (class_of b) refl (λ p. joins p bs)
joins InRepeat (b ∷ bs) = in_count_item b bs (class_of b) refl (λ p. joins p bs)

pub is_cut : (bs : List ℕ) → IsCut bs
is_cut bs = joins Outside bs
