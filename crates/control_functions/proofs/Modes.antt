-- Modes of ECMA-48. Each has its row.
use Rattle.std.proofs.Common.{◌≡◌, ℕ, ◌<◌, true, false, ◌==◌, map, Option, Some, None, refl, sym, ap, ◌∙◌, inl, inr}
use Rattle.std.proofs.lemmas.Bool.{cases_Bool, eqb-true}
use denote.Enum.Bare.{tag_one}
use denote.Enum.Declared.{variants}
use denote.Enum.Enum.{tag_below}
use Rattle.control_functions.specs.declared.mode.Mode.{Mode}
use Rattle.control_functions.specs.declared.mode_table.TheConstants.{ROWS}
use Rattle.control_functions.specs.contracts.mode.Mode.{the_type}
use Rattle.control_functions.specs.Modes.{place, number_of, mode_of, changes_screen, is_screen}
use Rattle.control_functions.proofs.Tables as tables
use Rattle.control_functions.proofs.Tables.{some_mode}

pub below : (m : Mode) → place m < 24
unfolding place
below m = tag_below (variants the_type) (the_type.to m)

-- the rows are in the order of the modes
pub sheet : tables.Modes ROWS place number_of changes_screen
unfolding place number_of changes_screen
sheet = tables.sheet_of below (tag_one the_type tt) refl refl refl some_mode

each_found : map (λ r. mode_of r.number) ROWS ≡ map (λ r. Some r.mode) ROWS
unfolding mode_of
each_found = refl

pub found_by_number : (m : Mode) → mode_of (number_of m) ≡ Some m
found_by_number = tables.of_each_key sheet mode_of (λ m. Some m) each_found

pub has_its_number : (n : ℕ) (m : Mode) → mode_of n ≡ Some m → number_of m ≡ n
unfolding mode_of
has_its_number = tables.keyed_in sheet

-- the only mode that changes the screen alone has the number 4
only_row : map (λ r. r.number == 4) ROWS ≡ map (λ r. changes_screen r.mode) ROWS
unfolding changes_screen
only_row = refl

only_mode : (m : Mode) → (number_of m == 4) ≡ changes_screen m
only_mode = tables.of_each_key sheet (λ n. n == 4) changes_screen only_row

only_found : (n : ℕ) (o : Option Mode) → mode_of n ≡ o → (n == 4) ≡ false → is_screen o ≡ false
only_found n None e h = refl
only_found n (Some m) e h =
    sym (only_mode m) ∙ ap (λ k. k == 4) (has_its_number n m e) ∙ h

is_the_fourth : is_screen (mode_of 4) ≡ true
unfolding mode_of changes_screen
is_the_fourth = refl

pub by_number : (n : ℕ) → (n == 4) ≡ is_screen (mode_of n)
by_number n =
    elim (cases_Bool (n == 4)) [
      | inl held ↦ held ∙ sym (ap (λ k. is_screen (mode_of k)) (eqb-true n 4 held) ∙ is_the_fourth)
      | inr failed ↦ failed ∙ sym (only_found n (mode_of n) refl failed)
    ]
