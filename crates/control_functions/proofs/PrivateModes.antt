-- Private modes. Each has its row.
use Rattle.std.proofs.Common.{◌≡◌, ℕ, ◌<◌, Bool, true, false, ◌==◌, List, [], ◌∷◌, map, Option, Some, None, refl, sym, ap, ◌∙◌, inl, inr}
use Rattle.std.specs.List.{list_all, list_any}
use Rattle.std.proofs.lemmas.Bool.{cases_Bool, and_parts, eqb-true}
use denote.Enum.Bare.{tag_one}
use denote.Enum.Declared.{variants}
use denote.Enum.Enum.{tag_below}
use Rattle.control_functions.specs.declared.private_mode.PrivateMode.{PrivateMode}
use Rattle.control_functions.specs.declared.private_mode_table.TheConstants.{ROWS}
use Rattle.control_functions.specs.contracts.private_mode.PrivateMode.{the_type}
use Rattle.control_functions.specs.PrivateModes.{place, number_of, mode_of, changes_screen, is_screen, screen_numbers, is_listed}
use Rattle.control_functions.proofs.Tables as tables
use Rattle.control_functions.proofs.Tables.{some_mode}

pub below : (m : PrivateMode) → place m < 138
unfolding place
below m = tag_below (variants the_type) (the_type.to m)

-- the rows are in the order of the modes
pub sheet : tables.Modes ROWS place number_of changes_screen
unfolding place number_of changes_screen
sheet = tables.sheet_of below (tag_one the_type tt) refl refl refl some_mode

each_found : map (λ r. mode_of r.number) ROWS ≡ map (λ r. Some r.mode) ROWS
unfolding mode_of
each_found = refl

pub found_by_number : (m : PrivateMode) → mode_of (number_of m) ≡ Some m
found_by_number = tables.of_each_key sheet mode_of (λ m. Some m) each_found

pub has_its_number : (n : ℕ) (m : PrivateMode) → mode_of n ≡ Some m → number_of m ≡ n
unfolding mode_of
has_its_number = tables.keyed_in sheet

-- a fact about each number of a list is one about a number that is on it
pub listed_fact : (t : ℕ → Bool) (ks : List ℕ) (n : ℕ) → list_all t ks ≡ true
    → list_any (λ k. n == k) ks ≡ true → t n ≡ true
listed_fact t [] n all h = cc
listed_fact t (k ∷ ks) n all h =
    let parts = and_parts (t k) (list_all t ks) all in
    elim (cases_Bool (n == k)) [
      | inl same ↦ ap t (eqb-true n k same) ∙ parts.0
      | inr other ↦ listed_fact t ks n parts.1 (rw other at h)
    ]

-- the numbers of the modes that change the screen alone are those of the list
listed_are : list_all (λ n. is_screen (mode_of n)) screen_numbers ≡ true
unfolding mode_of changes_screen
listed_are = refl

listed_rows : map (λ r. is_listed r.number) ROWS ≡ map (λ r. changes_screen r.mode) ROWS
unfolding changes_screen
listed_rows = refl

listed_mode : (m : PrivateMode) → is_listed (number_of m) ≡ changes_screen m
listed_mode = tables.of_each_key sheet is_listed changes_screen listed_rows

listed_found : (n : ℕ) (o : Option PrivateMode) → mode_of n ≡ o → is_listed n ≡ false
    → is_screen o ≡ false
listed_found n None e h = refl
listed_found n (Some m) e h =
    sym (listed_mode m) ∙ ap is_listed (has_its_number n m e) ∙ h

pub by_number : (n : ℕ) → is_listed n ≡ is_screen (mode_of n)
by_number n =
    elim (cases_Bool (is_listed n)) [
      | inl held ↦ held
          ∙ sym (listed_fact (λ k. is_screen (mode_of k)) screen_numbers n listed_are held)
      | inr failed ↦ failed ∙ sym (listed_found n (mode_of n) refl failed)
    ]
