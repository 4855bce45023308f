-- Rows by their keys.
use Rattle.std.proofs.Common.{◌≡◌, ℕ, zero, suc, ◌+◌, ◌-◌, ◌%◌, ◌<◌, ◌≤◌, nat_le, ◌==◌, Bool, true, List, [], ◌∷◌, take, drop, get_or, Some, None, refl, inl, inr}
use Rattle.std.specs.List.{list_all}
use Rattle.std.proofs.lemmas.Bool.{cases_Bool, and_parts, eqb-true, lt-leb, le-leb}
use Rattle.std.proofs.Math.Bool.{and-false}
use Rattle.control_functions.specs.Rows.{first_grouped, first_keyed, group}

pub all-drop : {A : Type 0} (p : A → Bool) (n : ℕ) (xs : List A) → list_all p xs ≡ true
    → list_all p (drop n xs) ≡ true
all-drop p zero xs h = h
all-drop p (suc n) [] h = refl
all-drop p (suc n) (x ∷ xs) h = all-drop p n xs (and_parts (p x) (list_all p xs) h).1

pub all-take : {A : Type 0} (p : A → Bool) (n : ℕ) (xs : List A) → list_all p xs ≡ true
    → list_all p (take n xs) ≡ true
all-take p zero xs h = refl
all-take p (suc n) [] h = refl
all-take p (suc n) (x ∷ xs) h =
    let parts = and_parts (p x) (list_all p xs) h in
    rw parts.0 (all-take p n xs parts.1)

-- the row that is found by a key has the key
pub record Found {R F : Type 0} (key : R → ℕ) (of : R → F) (p : R → Bool) (k : ℕ) (f : F)
    : Type 0 where
  pub row : R
  pub passes : p row ≡ true
  pub keyed : key row ≡ k
  pub named : of row ≡ f

pub found : {R F : Type 0} (key : R → ℕ) (of : R → F) (p : R → Bool) (rs : List R) (k : ℕ) (f : F)
    → list_all p rs ≡ true → first_keyed key of rs k ≡ Some f → Found key of p k f
found key of p [] k f all h = cc
found key of p (r ∷ rs) k f all h =
    let parts = and_parts (p r) (list_all p rs) all in
    elim (cases_Bool (key r == k)) [
      | inl same ↦ let e : Some (of r) ≡ Some f = rw same at h in
          let is : of r ≡ f = cc in
          record { row = r; passes = parts.0; keyed = eqb-true (key r) k same; named = is }
      | inr other ↦ found key of p rs k f parts.1 (rw other at h)
    ]

pub found_in_group : {R F : Type 0} (key : R → ℕ) (of : R → F) (p : R → Bool) (rows : List R)
    (starts : List ℕ) (i k : ℕ) (f : F) → list_all p rows ≡ true
    → first_keyed key of (group rows starts i) k ≡ Some f → Found key of p k f
found_in_group key of p rows starts i k f all h =
    found key of p (group rows starts i) k f
    (all-take p (get_or starts (i + 1) 0 - get_or starts i 0) (drop (get_or starts i 0) rows)
    (all-drop p (get_or starts i 0) rows all)) h

-- how a key is looked up in groups
pub too_low : {R F : Type 0} (key : R → ℕ) (of : R → F) (rows_of : ℕ → List R) (first k : ℕ)
    → k % 256 < first → None ≡ first_grouped key of rows_of first k
too_low key of rows_of first k low = rw (lt-leb first (k % 256) low) refl

pub too_high : {R F : Type 0} (key : R → ℕ) (of : R → F) (rows_of : ℕ → List R) (first k : ℕ)
    → 0x7e < k % 256 → None ≡ first_grouped key of rows_of first k
too_high key of rows_of first k high =
    rw (lt-leb (k % 256) 0x7e high, and-false (nat_le first (k % 256))) refl

pub in_group : {R F : Type 0} (key : R → ℕ) (of : R → F) (rows_of : ℕ → List R) (first k i : ℕ)
    → first ≤ k % 256 → k % 256 ≤ 0x7e → k % 256 - first ≡ i
    → first_keyed key of (rows_of i) k ≡ first_grouped key of rows_of first k
in_group key of rows_of first k i low high e = rw (le-leb _ _ low, le-leb _ _ high, e) refl
